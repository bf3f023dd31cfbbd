-- What a stream keeps from cycle to cycle.
use Rattle.std.proofs.Common.{◌≡◌, ◌*◌, inl, inr, ◌⊎◌, ℕ, zero, suc, Bool, true, false, List, [], ◌∷◌, ◌++◌, All, Option, Some, None, length, slice_get, refl, sym, subst, ap, ◌∙◌, arith}
use Rattle.std.specs.Prelude.{replicate}
use Rattle.std.proofs.lemmas.List.Elements.{All-nil, All-cons, All-append, All-replicate, All-tail}
use Rattle.iface_roles.specs.declared.records.StreamPort.{StreamPort}
use Rattle.system_tables.specs.Tables.{SystemTable}
use Rattle.stream_runs.specs.View.{EndView}
use Rattle.scenario_tables.specs.declared.statements.Pattern.{Pattern}
use Rattle.scenario_tables.specs.declared.statements.SourceStatement.{SourceStatement}
use Rattle.scenario_tables.specs.declared.statements.SourceStatement.TheVariants as states
use Rattle.scenario_tables.specs.Statements.{FitsStall, FollowPackets, IsPattern, IsSinkScript, open_behind}
use Rattle.stand_ins.specs.Step.{Step}
use Rattle.stand_ins.specs.Step.Step.{Quiet, Sends}
use Rattle.stand_ins.specs.StreamsSteps.{left_behind, levels_of, steps_of}
use Rattle.benches.specs.Sound.{IsWithin}
use Rattle.benches.specs.Streams.{BenchStreamValue, IsFirstStream}

-- ---- the steps that are left

pub script_within : (port : StreamPort) (opened : Option ℕ) (script : List SourceStatement) → FollowPackets port opened script → All (IsWithin (port.symbols * port.symbol_bits)) (steps_of script)
script_within port opened [] follow = All-nil (IsWithin (port.symbols * port.symbol_bits))
script_within port opened (states.Beat beat ∷ later) follow =
    All-cons (IsWithin (port.symbols * port.symbol_bits)) (Sends (levels_of beat)) (steps_of later) follow.0.ports.word (script_within port (open_behind beat) later follow.1)
script_within port opened (states.Gap cycles ∷ later) follow =
    All-append (IsWithin (port.symbols * port.symbol_bits)) (replicate cycles Quiet) (steps_of later) (All-replicate (IsWithin (port.symbols * port.symbol_bits)) cycles Quiet tt)
    (script_within port opened later follow.1)

pub behind_within : (bits : ℕ) (taken : Bool) (steps : List Step) → All (IsWithin bits) steps → All (IsWithin bits) (left_behind taken steps)
behind_within bits taken [] within = within
behind_within bits taken (Quiet ∷ later) within = All-tail (IsWithin bits) Quiet later within
behind_within bits true (Sends beat ∷ later) within = All-tail (IsWithin bits) (Sends beat) later within
behind_within bits false (Sends beat ∷ later) within = within

-- a view of an end at which nothing happens
pub quiet : EndView
quiet = record { valid = λ c. 0; word = λ c. 0; channel = λ c. 0; error = λ c. 0; first = λ c. 0; last = λ c. 0; empty = λ c. 0; ready = λ c. 0 }

-- ---- the patterns of a sink

patterns_of : (has : Bool) (script : List Pattern) → All (FitsStall has) script → All IsPattern script
patterns_of has [] each = All-nil IsPattern
patterns_of has (pattern ∷ later) each =
    All-cons IsPattern pattern later (each 0 pattern (omega arith)).is_pattern (patterns_of has later (All-tail (FitsStall has) pattern later each))

pub are_patterns : (port : StreamPort) (script : List Pattern) → IsSinkScript port script → All IsPattern script
are_patterns port script is = patterns_of port.ready script is.each

-- ---- streams one after another

-- each of these is the first of its number
abbrev pub AreFirst : SystemTable → List (List SourceStatement) → List (List Pattern) → List BenchStreamValue → Type 0
AreFirst system sources sinks streams = (s : ℕ) (stream : BenchStreamValue) (statements : List SourceStatement) (script : List Pattern) → slice_get streams s ≡ Some stream
    → slice_get sources s ≡ Some statements → slice_get sinks s ≡ Some script → IsFirstStream system s statements script stream

last_or : {X : Type 0} (xs : List X) (y : X) (k : ℕ) (x : X) → slice_get (xs ++ y ∷ []) k ≡ Some x → (slice_get xs k ≡ Some x) ⊎ ((k ≡ length xs) × (y ≡ x))
last_or [] y zero x e = inr (refl, cc)
last_or [] y (suc k) x e = absurd (let n : None ≡ Some x = e in cc)
last_or (z ∷ xs) y zero x e = inl e
last_or (z ∷ xs) y (suc k) x e = elim (last_or xs y k x e) [ inl a ↦ inl a | inr b ↦ inr (ap suc b.0, b.1) ]

some_same : {X : Type 0} (x y : X) → Some x ≡ Some y → x ≡ y
some_same x y e = cc

pub one_more : (system : SystemTable) (sources : List (List SourceStatement)) (sinks : List (List Pattern)) (streams : List BenchStreamValue) (number : ℕ) (next : BenchStreamValue)
    (statements : List SourceStatement) (script : List Pattern) → length streams ≡ number → AreFirst system sources sinks streams → slice_get sources number ≡ Some statements
    → slice_get sinks number ≡ Some script → IsFirstStream system number statements script next → AreFirst system sources sinks (streams ++ next ∷ [])
one_more system sources sinks streams number next statements script count are source_is sink_is first s stream own_statements own_script at source_at sink_at =
    elim (last_or streams next s stream at) [
      | inl e ↦ are s stream own_statements own_script e source_at sink_at
      | inr e ↦ (let place : s ≡ number = e.0 ∙ count in
          let same_source : own_statements ≡ statements = some_same _ _ (sym source_at ∙ ap (slice_get sources) place ∙ source_is) in
          let same_sink : own_script ≡ script = some_same _ _ (sym sink_at ∙ ap (slice_get sinks) place ∙ sink_is) in
          subst (λ (n : ℕ). IsFirstStream system n own_statements own_script stream) (sym place)
          (subst (λ (ss : List SourceStatement). IsFirstStream system number ss own_script stream) (sym same_source)
          (subst (λ (ps : List Pattern). IsFirstStream system number statements ps stream) (sym same_sink)
          (subst (λ (x : BenchStreamValue). IsFirstStream system number statements script x) e.1 first))))
    ]
