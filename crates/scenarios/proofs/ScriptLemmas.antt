-- Scripts with a statement more.
use Rattle.std.proofs.Common.{◌≡◌, ℕ, ◌≤◌, ◌⊎◌, inl, inr, zero, suc, false, List, [], ◌∷◌, ◌++◌, length, replicate, slice_get, Option, Some, refl, sym, ap, length-append, arith}
use Rattle.std.specs.Prelude.{All, unwrap_or}
use Rattle.std.proofs.lemmas.Bool.Decides.{nat_tests}
use Rattle.std.proofs.lemmas.Option.{same_Some}
use Rattle.std.proofs.lemmas.List.Elements.{All-append}
use Rattle.iface_roles.specs.declared.records.StreamPort.{StreamPort}
use Rattle.scenario_tables.specs.Changes.{changed_at}
use Rattle.scenario_tables.specs.declared.statements.AgentStatement.{AgentStatement}
use Rattle.scenario_tables.specs.declared.statements.AgentStatement.TheVariants.{Stall, Latency, Fill, Code}
use Rattle.scenario_tables.specs.declared.statements.SourceBeat.{SourceBeat}
use Rattle.scenario_tables.specs.declared.statements.SourceStatement.{SourceStatement}
use Rattle.scenario_tables.specs.declared.statements.SourceStatement.TheVariants.{Beat, Gap}
use Rattle.scenario_tables.specs.Statements.{IsRest, FitsBeat, FollowPackets, open_behind, stalls_of, latencies_of}
use Rattle.scenarios.specs.Hosts.{is_full}
use Rattle.scenarios.specs.SoFar.{script_at}
use Rattle.scenarios.specs.Streams.{opened_by}

pub length-changed_at : {X : Type 0} (n : ℕ) (change : X → X) (xs : List X) → length (changed_at n change xs) ≡ length xs
length-changed_at n change [] = refl
length-changed_at zero change (x ∷ xs) = refl
length-changed_at (suc n) change (x ∷ xs) = ap suc (length-changed_at n change xs)

-- what stands at a place is as before, or the item that was changed
pub changed_there : {X : Type 0} (n k : ℕ) (change : X → X) (xs : List X) (y : X) → slice_get (changed_at n change xs) k ≡ Some y
    → (slice_get xs k ≡ Some y) ⊎ ((k ≡ n) × (x : X) × (slice_get xs k ≡ Some x) × (y ≡ change x))
changed_there n k change [] y e = inl e
changed_there zero zero change (x ∷ xs) y e = inr (refl, x, refl, sym (same_Some (change x) y e))
changed_there zero (suc k) change (x ∷ xs) y e = inl e
changed_there (suc n) zero change (x ∷ xs) y e = inl e
changed_there (suc n) (suc k) change (x ∷ xs) y e = elim (changed_there n k change xs y e) [ inl same ↦ inl same | inr new ↦ inr (ap suc new.0, new.1, new.2, new.3) ]

pub replicated : {X : Type 0} (n k : ℕ) (x y : X) → slice_get (replicate n x) k ≡ Some y → y ≡ x
replicated zero k x y e = cc
replicated (suc n) zero x y e = sym (same_Some x y e)
replicated (suc n) (suc k) x y e = replicated n k x y e

pub script_is : {X : Type 0} (scripts : List (List X)) (number : ℕ) (script : List X) → slice_get scripts number ≡ Some script → script_at number scripts ≡ script
script_is scripts number script e = ap (λ o. unwrap_or o []) e

pub one_more : {X : Type 0} (script : List X) (statement : X) → is_full (length script) ≡ false → length (script ++ statement ∷ []) ≤ 4096
one_more script statement h = let more = length-append script (statement ∷ []) in grind (arith, nat_tests)

one_all : {X : Type 0} (P : X → Type 0) (x : X) → P x → All P (x ∷ [])
one_all P x h zero d inside = h
one_all P x h (suc k) d inside = absurd (omega arith)

pub all_more : {X : Type 0} (P : X → Type 0) (script : List X) (statement : X) → All P script → P statement → All P (script ++ statement ∷ [])
all_more P script statement all h = All-append P script (statement ∷ []) all (one_all P statement h)

-- ---- agents

pub stalls_of-append : (script more : List AgentStatement) → stalls_of (script ++ more) ≡ stalls_of script ++ stalls_of more
stalls_of-append [] more = refl
stalls_of-append (Stall pattern ∷ later) more = ap (λ ps. pattern ∷ ps) (stalls_of-append later more)
stalls_of-append (Latency cycles ∷ later) more = stalls_of-append later more
stalls_of-append (Fill offset bytes ∷ later) more = stalls_of-append later more
stalls_of-append (Code offset code ∷ later) more = stalls_of-append later more

pub latencies_of-append : (script more : List AgentStatement) → latencies_of (script ++ more) ≡ latencies_of script ++ latencies_of more
latencies_of-append [] more = refl
latencies_of-append (Stall pattern ∷ later) more = latencies_of-append later more
latencies_of-append (Latency cycles ∷ later) more = ap (λ cs. cycles ∷ cs) (latencies_of-append later more)
latencies_of-append (Fill offset bytes ∷ later) more = latencies_of-append later more
latencies_of-append (Code offset code ∷ later) more = latencies_of-append later more

-- ---- sources

pub beat_more : (port : StreamPort) (opened : Option ℕ) (script : List SourceStatement) (beat : SourceBeat) → FollowPackets port opened script → FitsBeat port (opened_by opened script) beat
    → FollowPackets port opened (script ++ Beat beat ∷ [])
beat_more port opened [] beat h fits = (fits, tt)
beat_more port opened (Beat first ∷ later) beat h fits = (h.0, beat_more port (open_behind first) later beat h.1 fits)
beat_more port opened (Gap cycles ∷ later) beat h fits = (h.0, beat_more port opened later beat h.1 fits)

pub gap_more : (port : StreamPort) (opened : Option ℕ) (script : List SourceStatement) (cycles : ℕ) → FollowPackets port opened script → IsRest cycles → FollowPackets port opened (script ++ Gap cycles ∷ [])
gap_more port opened [] cycles h rest = (rest, tt)
gap_more port opened (Beat first ∷ later) cycles h rest = (h.0, gap_more port (open_behind first) later cycles h.1 rest)
gap_more port opened (Gap first ∷ later) cycles h rest = (h.0, gap_more port opened later cycles h.1 rest)
