-- What an agent's stand-in shows fits its ports.
use Rattle.std.proofs.Common.{◌≡◌, ◌+◌, ◌-◌, ◌*◌, ◌%◌, ◌^◌, ◌<◌, ◌≤◌, ℕ, zero, suc, Bool, true, false, not, ◌&&◌, ◌||◌, nat_eq, nat_le, List, [], ◌∷◌, ◌++◌, map, filter, flat_map, slice_index, All, IsFalse, if◌then◌else◌, refl, sym, ap, subst, ◌∙◌, arith}
use Rattle.std.proofs.lemmas.List.Elements.{All-tail}
use Rattle.std.proofs.lemmas.Nat.{pow_pos}
use Rattle.iface_roles.specs.declared.records.AgentPort.{AgentPort}
use Rattle.iface_roles.specs.Proper.{IsBoundedAgent}
use Rattle.histories.specs.History.{is_raised, numbers, one_if}
use Rattle.memory_runs.specs.Views.{Kind, Levels, levels_at, AgentSide, AgentView}
use Rattle.memory_runs.specs.Views.Kind.{Reads, Writes}
use Rattle.memory_runs.specs.Operations.{Operation, Beat, byte_at, is_enabled, memory_after, operation_at, operation_of_kind, own_operations, written}
use Rattle.memory_runs.specs.Operations.Operation.{Write, Read}
use Rattle.memory_runs.specs.Commands.{Transfer, accepted, agent_accepts, stood_before, wait_time}
use Rattle.memory_runs.specs.Sides.{agent_side}
use Rattle.port_tables.specs.Ports.{bits_if}
use Rattle.scenario_tables.specs.declared.statements.AgentStatement.{AgentStatement}
use Rattle.scenario_tables.specs.declared.statements.AgentStatement.TheVariants.{Stall, Latency, Fill, Code}
use Rattle.scenario_tables.specs.Statements.{FitsAgent, FitsStall, IsAgentScript, stalls_of}
use Rattle.stand_ins.specs.declared.waiting.Waiting.{Waiting}
use Rattle.stand_ins.specs.Codes.{code_at}
use Rattle.stand_ins.specs.Contents.{contents_before, filled, fills, word_at, writes_from}
use Rattle.stand_ins.specs.Answers.{asked_word, asked_words, is_borne, is_due, latency_of, still_waiting, takes_read, waiting_before, word_asked, word_asked_in, word_behind, word_due}
use Rattle.stand_ins.specs.StandIns.{first_stalls, gives_in, stall_pattern, stalls_in, word_in, code_in}
use Rattle.stand_ins.specs.ByteLaws.{byte_shift, number_below}
use Rattle.port_rows.specs.Inputs.{FitsPort}
use Rattle.port_rows.specs.declared.agent_ends.places.AgentLevels.{AgentLevels}
use Rattle.port_rows.specs.Agents.{AllHoldBytes, FitsPorts, HoldsBytes, stand_in_levels}
use Rattle.port_rows.proofs.agent_ends.Shown.{low_fits}

-- ---- bytes

either : {X : Type 0} (P : X → Type 0) (test : Bool) (one other : X) → P one → P other → P (if test then one else other)
either P true one other h k = h
either P false one other h k = k

-- no byte that is written is above 255
abbrev AreSmall : List Operation → Type 0
AreSmall [] = Unit {0}
AreSmall (Write offset byte ∷ later) = (byte < 256) × AreSmall later
AreSmall (Read offset ∷ later) = AreSmall later

memory_small : (operations : List Operation) (contents : ℕ → ℕ) → ((place : ℕ) → contents place < 256) → AreSmall operations → (place : ℕ) → memory_after contents operations place < 256
memory_small [] contents small h place = small place
memory_small (Write offset byte ∷ later) contents small h place =
    memory_small later (written contents offset byte) (λ q. either (λ n. n < 256) (nat_eq q offset) byte (contents q) h.0 (small q)) h.1 place
memory_small (Read offset ∷ later) contents small h place = memory_small later contents small h place

small_append : (one other : List Operation) → AreSmall one → AreSmall other → AreSmall (one ++ other)
small_append [] other h k = k
small_append (Write offset byte ∷ later) other h k = (h.0, small_append later other h.1 k)
small_append (Read offset ∷ later) other h k = small_append later other h k

small_flat : {X : Type 0} (f : X → List Operation) → ((x : X) → AreSmall (f x)) → (xs : List X) → AreSmall (flat_map f xs)
small_flat f each [] = tt
small_flat f each (x ∷ xs) = small_append (f x) (flat_map f xs) (each x) (small_flat f each xs)

one_small : (kind : Kind) (offset byte : ℕ) (later : List Operation) → byte < 256 → AreSmall later → AreSmall (operation_of_kind kind offset byte ∷ later)
one_small Writes offset byte later h k = (h, k)
one_small Reads offset byte later h k = k

lanes_small : (span : ℕ) (beat : Beat) (lanes : List ℕ) → AreSmall (map (operation_at span beat) lanes)
lanes_small span beat [] = tt
lanes_small span beat (lane ∷ later) =
    one_small beat.kind ((beat.address + lane) % span) (byte_at beat.word lane) (map (operation_at span beat) later) (omega arith) (lanes_small span beat later)

from_small : (offset : ℕ) (bytes : List ℕ) → ((k : ℕ) → slice_index bytes k < 256) → AreSmall (writes_from offset bytes)
from_small offset [] h = tt
from_small offset (byte ∷ later) h = (h 0, from_small (offset + 1) later (λ k. h (suc k)))

fills_small : (statement : AgentStatement) → HoldsBytes statement → AreSmall (fills statement)
fills_small (Stall pattern) h = tt
fills_small (Latency cycles) h = tt
fills_small (Fill offset bytes) h = from_small offset bytes h
fills_small (Code offset code) h = tt

script_small : (script : List AgentStatement) → AllHoldBytes script → AreSmall (flat_map fills script)
script_small [] h = tt
script_small (first ∷ later) h = small_append (fills first) (flat_map fills later) (fills_small first h.0) (script_small later h.1)

contents_small : (side : AgentSide) (script : List AgentStatement) (view : AgentView) (c : ℕ) → AllHoldBytes script → (place : ℕ) → contents_before side script view c place < 256
contents_small side script view c h place =
    memory_small (flat_map (own_operations side.shape side.span) (flat_map (λ (taken : Transfer). taken.beats) (accepted side.shape view.signals (agent_accepts side view) c))) (filled script)
    (memory_small (flat_map fills script) (λ _. 0) (λ _. omega arith) (script_small script h))
    (small_flat (own_operations side.shape side.span) (λ beat. lanes_small side.span beat (filter (is_enabled beat.enables) (numbers 0 side.word_bytes)))
    (flat_map (λ (taken : Transfer). taken.beats) (accepted side.shape view.signals (agent_accepts side view) c)))
    place

-- ---- words

abbrev bound_of : AgentSide → ℕ
bound_of side = 2 ^ (8 * side.word_bytes)

word_small : (side : AgentSide) (contents : ℕ → ℕ) (address : ℕ) → ((place : ℕ) → contents place < 256) → word_at side contents address < bound_of side
word_small side contents address small =
    subst (λ (n : ℕ). word_at side contents address < n) (sym (byte_shift side.word_bytes))
    (number_below (λ lane. contents ((address + lane) % side.span)) 0 side.word_bytes (λ k less. small ((address + (0 + k)) % side.span)))

-- each of these words is below a bound
abbrev AreBelow : ℕ → List Waiting → Type 0
AreBelow bound [] = Unit {0}
AreBelow bound (first ∷ later) = (first.word < bound) × AreBelow bound later

below_append : (bound : ℕ) (one other : List Waiting) → AreBelow bound one → AreBelow bound other → AreBelow bound (one ++ other)
below_append bound [] other h k = k
below_append bound (first ∷ later) other h k = (h.0, below_append bound later other h.1 k)

asked_below : (side : AgentSide) (contents codes : ℕ → ℕ) (due : ℕ) (levels : Levels) (asked : List ℕ) → ((place : ℕ) → contents place < 256)
    → AreBelow (bound_of side) (map (asked_word side contents codes due levels) asked)
asked_below side contents codes due levels [] small = tt
asked_below side contents codes due levels (number ∷ later) small = (word_small side contents _ small, asked_below side contents codes due levels later small)

still_below : (bound c : ℕ) (waiting : List Waiting) → AreBelow bound waiting → AreBelow bound (still_waiting c waiting)
still_below bound c [] h = tt
still_below bound c (first ∷ later) h = either (AreBelow bound) (nat_le first.due c) later (first ∷ later) h.1 h

waiting_below : (side : AgentSide) (script : List AgentStatement) (view : AgentView) (c : ℕ) → AllHoldBytes script → AreBelow (bound_of side) (waiting_before side script view c)
waiting_below side script view zero h = tt
waiting_below side script view (suc c) h =
    let levels = levels_at view.signals c in
    let contents = contents_before side script view c in
    let before = waiting_before side script view c in
    let still = still_below (bound_of side) c before (waiting_below side script view c h) in
    either (AreBelow (bound_of side)) (takes_read side view c && is_borne side (still_waiting c before) levels.count)
    (still_waiting c before ++ asked_words side contents (code_at side script) (c + latency_of script) levels) (still_waiting c before)
    (below_append (bound_of side) (still_waiting c before) (asked_words side contents (code_at side script) (c + latency_of script) levels) still
    (asked_below side contents (code_at side script) (c + latency_of script) levels (numbers 0 levels.count) (contents_small side script view c h)))
    still

due_below : (side : AgentSide) (c : ℕ) (waiting : List Waiting) → AreBelow (bound_of side) waiting → word_due c waiting < bound_of side
due_below side c [] h = pow_pos (8 * side.word_bytes)
due_below side c (first ∷ later) h = either (λ n. n < bound_of side) (nat_le first.due c) first.word 0 h.0 (pow_pos (8 * side.word_bytes))

asked_in_below : (side : AgentSide) (script : List AgentStatement) (view : AgentView) (c : ℕ) → AllHoldBytes script → word_asked_in side script view c < bound_of side
asked_in_below side script view c h =
    either (λ n. n < bound_of side) (takes_read side view c) _ 0 (word_small side (contents_before side script view c) _ (contents_small side script view c h)) (pow_pos (8 * side.word_bytes))

word_below : (port : AgentPort) (script : List AgentStatement) (view : AgentView) (c : ℕ) → AllHoldBytes script → word_in port script view c < 2 ^ (8 * port.word_bytes)
word_below port script view c h =
    let side = agent_side port in
    either (λ n. n < 2 ^ (8 * port.word_bytes)) port.readdatavalid (word_due c (waiting_before side script view c)) (word_behind side script view c)
    (due_below side c (waiting_before side script view c) (waiting_below side script view c h))
    (either (λ n. n < 2 ^ (8 * port.word_bytes)) (nat_le port.read_latency c) (word_asked_in side script view (c - port.read_latency)) 0
    (asked_in_below side script view (c - port.read_latency) h) (pow_pos (8 * port.word_bytes)))

-- ---- where nothing is read

none_taken : (has waits standing writes : Bool) → ((if has then ((false || writes) && not waits) else ((false || writes) && standing)) && not writes) ≡ false
none_taken true waits standing false = refl
none_taken true true standing true = refl
none_taken true false standing true = refl
none_taken false waits standing false = refl
none_taken false waits true true = refl
none_taken false waits false true = refl

not_taken : (side : AgentSide) (view : AgentView) (c : ℕ) → view.signals.read c ≡ 0 → takes_read side view c ≡ false
not_taken side view c none =
    let writes = is_raised (view.signals.write c) in
    let waits = is_raised (view.waitrequest c) in
    let standing = nat_eq (stood_before side view c) (wait_time side view c) in
    ap (λ read. (if side.has_waitrequest then ((is_raised read || writes) && not waits) else ((is_raised read || writes) && standing)) && not writes) none
    ∙ none_taken side.has_waitrequest waits standing writes

both_same : (test : Bool) → ◌≡◌ {A = ℕ} (if test then 0 else 0) 0
both_same true = refl
both_same false = refl

none_behind : (side : AgentSide) (script : List AgentStatement) (view : AgentView) (c : ℕ) → ((d : ℕ) → d ≤ c → view.signals.read d ≡ 0) → word_behind side script view c ≡ 0
none_behind side script view c none =
    let d = c - side.read_latency in
    let asked : word_asked_in side script view d ≡ 0 =
    ap (λ reads. word_asked side (contents_before side script view d) (levels_at view.signals d) reads) (not_taken side view d (none d (omega arith))) in
    ap (λ word. if nat_le side.read_latency c then word else 0) asked ∙ both_same (nat_le side.read_latency c)

no_valid : (valid reads : Bool) → (valid ≡ true → reads ≡ true) → reads ≡ false → valid ≡ false
no_valid true reads h none = let there = h refl in absurd (cc)
no_valid false reads h none = refl

no_word : (port : AgentPort) (script : List AgentStatement) (view : AgentView) (c : ℕ) → IsBoundedAgent port → port.reads ≡ false → ((d : ℕ) → d ≤ c → view.signals.read d ≡ 0)
    → word_in port script view c ≡ 0
no_word port script view c bounded reads none =
    let side = agent_side port in
    ap (λ valid. if valid then word_due c (waiting_before side script view c) else word_behind side script view c) (no_valid port.readdatavalid port.reads bounded.ports.valid_reads reads)
    ∙ none_behind side script view c none

no_stalls : (port : AgentPort) (script : List AgentStatement) → All (FitsAgent port) script → port.waitrequest ≡ false → stalls_of script ≡ []
no_stalls port [] fits none = refl
no_stalls port (Stall pattern ∷ later) fits none =
    let stall : FitsStall port.waitrequest pattern = fits 0 (Stall pattern) (omega arith) in
    let there : port.waitrequest ≡ true = stall.stalls in
    absurd (cc)
no_stalls port (Latency cycles ∷ later) fits none = no_stalls port later (All-tail (FitsAgent port) (Latency cycles) later fits) none
no_stalls port (Fill offset bytes ∷ later) fits none = no_stalls port later (All-tail (FitsAgent port) (Fill offset bytes) later fits) none
no_stalls port (Code offset code ∷ later) fits none = no_stalls port later (All-tail (FitsAgent port) (Code offset code) later fits) none

-- ---- at the ports

flag_fits : (present flag : Bool) → (present ≡ false → flag ≡ false) → FitsPort (bits_if present 1) 0 (one_if flag)
flag_fits true true h = record { room = λ some. omega arith; default = λ none. absurd (omega arith) }
flag_fits true false h = low_fits 1
flag_fits false flag h = record { room = λ some. absurd (omega arith); default = λ none. ap one_if (h refl) }

word_fits : (present : Bool) (width word : ℕ) → word < 2 ^ width → (present ≡ false → word ≡ 0) → FitsPort (bits_if present width) 0 word
word_fits true width word room none = record { room = λ some. room; default = λ empty. let one : word < 2 ^ 0 = subst (λ (n : ℕ). word < 2 ^ n) empty room in omega (arith, one) }
word_fits false width word room none = record { room = λ some. absurd (omega arith); default = λ empty. none refl }

-- ---- what is known of codes

abbrev pub CodesAreFew : Type 0
CodesAreFew = (port : AgentPort) (script : List AgentStatement) (view : AgentView) (c : ℕ) → IsAgentScript port script → code_in port script view c ≤ 3

abbrev pub NoCodeWithout : Type 0
NoCodeWithout = (port : AgentPort) (script : List AgentStatement) (view : AgentView) (c : ℕ) → IsAgentScript port script → IsFalse port.response → code_in port script view c ≡ 0

pub stand_in_fits : CodesAreFew → NoCodeWithout → (port : AgentPort) (script : List AgentStatement) (view : AgentView) (c : ℕ) → AllHoldBytes script → IsBoundedAgent port → IsAgentScript port script
    → (IsFalse port.reads → (d : ℕ) → d ≤ c → view.signals.read d ≡ 0) → FitsPorts port (stand_in_levels port script view c)
stand_in_fits few without port script view c bytes bounded kept unread = record {
  wait = flag_fits port.waitrequest (stalls_in (stall_pattern script) c) (λ none. ap (λ patterns. stalls_in (first_stalls patterns) c) (no_stalls port script kept.each none));
  valid = flag_fits port.readdatavalid (gives_in port script view c) (λ none. ap (λ (valid : Bool). valid && is_due c (waiting_before (agent_side port) script view c)) none);
  word = word_fits port.reads (8 * port.word_bytes) (word_in port script view c) (word_below port script view c bytes) (λ none. no_word port script view c bounded none (unread none));
  code = word_fits port.response 2 (code_in port script view c) (let most = few port script view c kept in omega (arith, most)) (without port script view c kept);
}

pub rest_fits : (port : AgentPort) (levels : AgentLevels) → FitsPorts port levels → FitsPorts port (record levels { word = 0; code = 0 })
rest_fits port levels h = record { wait = h.wait; valid = h.valid; word = low_fits (bits_if port.reads (8 * port.word_bytes)); code = low_fits (bits_if port.response 2) }
