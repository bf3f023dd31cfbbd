-- What is shown by a script fits the ports.
use Rattle.std.proofs.Common.{◌≡◌, ◌*◌, ◌^◌, ◌<◌, lit<, ℕ, zero, suc, Bool, true, false, List, [], ◌∷◌, All, IsTrue, IsFalse, Option, refl, sym, ap, subst, ◌∙◌, arith}
use Rattle.std.specs.Prelude.{unwrap_or, replicate}
use Rattle.std.proofs.lemmas.List.Elements.{All-nil, All-cons, All-append, All-replicate, All-tail}
use Rattle.std.proofs.lemmas.Nat.{pow_pos}
use Rattle.iface_roles.specs.declared.records.StreamPort.{StreamPort}
use Rattle.histories.specs.History.{one_if}
use Rattle.stream_runs.specs.View.{EndView, Pace, is_ready_cycle}
use Rattle.port_tables.specs.Ports.{bits_if}
use Rattle.scenario_tables.specs.declared.statements.SourceBeat.{SourceBeat}
use Rattle.scenario_tables.specs.declared.statements.SourceStatement.{SourceStatement}
use Rattle.scenario_tables.specs.declared.statements.SourceStatement.TheVariants as states
use Rattle.scenario_tables.specs.declared.statements.Pattern.{Pattern}
use Rattle.scenario_tables.specs.Statements.{open_behind, FitsBeat, FitsStall, FollowPackets, IsSinkScript}
use Rattle.stand_ins.specs.Step.{Step}
use Rattle.stand_ins.specs.Step.Step.{Quiet, Sends}
use Rattle.stand_ins.specs.StreamsSteps.{left_before, left_behind, levels_of, next_beat, steps_of}
use Rattle.stand_ins.specs.Sources.{no_beat}
use Rattle.stand_ins.specs.Sinks.{ready_in}
use Rattle.port_rows.specs.Inputs.{FitsPort}
use Rattle.port_rows.specs.Sources.{FitsSource}
use Rattle.port_rows.specs.Sinks.{FitsReady}

-- ---- one signal

-- what is below the power of a width fits, and without a port it is 0
level_fits : (width level : ℕ) → level < 2 ^ width → FitsPort width 0 level
level_fits width level fits = record { room = λ some. fits; default = λ none. let one : level < 2 ^ 0 = subst (λ (n : ℕ). level < 2 ^ n) none fits in omega arith }

bit_below : (bit : Bool) → one_if bit < 2 ^ 1
bit_below true = lit< tt
bit_below false = lit< tt

low_fits : (width : ℕ) → FitsPort width 0 0
low_fits width = level_fits width 0 (pow_pos width)

-- a mark of a packet, where there are packets; else it is low
mark_fits : (packets mark : Bool) → (IsFalse packets → IsFalse mark) → FitsPort (bits_if packets 1) 0 (one_if mark)
mark_fits true mark unmarked = record { room = λ _. bit_below mark; default = λ none. absurd (omega arith) }
mark_fits false mark unmarked = record { room = λ one. absurd (omega arith); default = λ _. ap one_if (unmarked refl) }

ready_fits : (has ready : Bool) → (IsFalse has → IsTrue ready) → FitsPort (bits_if has 1) 1 (one_if ready)
ready_fits true ready always = record { room = λ _. bit_below ready; default = λ none. absurd (omega arith) }
ready_fits false ready always = record { room = λ one. absurd (omega arith); default = λ _. ap one_if (always refl) }

-- ---- beats

silence_fits : (port : StreamPort) → FitsSource port no_beat
silence_fits port = record {
  word = low_fits (port.symbols * port.symbol_bits);
  channel = low_fits port.channel_bits;
  error = low_fits port.error_bits;
  first = low_fits (bits_if port.packets 1);
  last = low_fits (bits_if port.packets 1);
  empty = low_fits port.empty_bits;
}

beat_fits : (port : StreamPort) (opened : Option ℕ) (beat : SourceBeat) → FitsBeat port opened beat → FitsSource port (levels_of beat)
beat_fits port opened beat fits = record {
  word = level_fits (port.symbols * port.symbol_bits) beat.word fits.ports.word;
  channel = level_fits port.channel_bits beat.channel fits.ports.channel_bits;
  error = level_fits port.error_bits beat.error fits.ports.error;
  first = mark_fits port.packets beat.first (λ plain. (fits.unmarked plain).first);
  last = mark_fits port.packets beat.last (λ plain. (fits.unmarked plain).last);
  empty = level_fits port.empty_bits beat.empty fits.ports.empty_bits;
}

-- ---- the steps of a script

abbrev pub StepFits : StreamPort → Step → Type 0
StepFits port Quiet = Unit {0}
StepFits port (Sends beat) = FitsSource port beat

pub script_fits : (port : StreamPort) (opened : Option ℕ) (script : List SourceStatement) → FollowPackets port opened script → All (StepFits port) (steps_of script)
script_fits port opened [] follow = All-nil (StepFits port)
script_fits port opened (states.Beat beat ∷ later) follow =
    All-cons (StepFits port) (Sends (levels_of beat)) (steps_of later) (beat_fits port opened beat follow.0) (script_fits port (open_behind beat) later follow.1)
script_fits port opened (states.Gap cycles ∷ later) follow =
    All-append (StepFits port) (replicate cycles Quiet) (steps_of later) (All-replicate (StepFits port) cycles Quiet tt) (script_fits port opened later follow.1)

left_fits : (port : StreamPort) (ready : Bool) (steps : List Step) → All (StepFits port) steps → All (StepFits port) (left_behind ready steps)
left_fits port ready [] fits = fits
left_fits port ready (Quiet ∷ later) fits = All-tail (StepFits port) Quiet later fits
left_fits port true (Sends beat ∷ later) fits = All-tail (StepFits port) (Sends beat) later fits
left_fits port false (Sends beat ∷ later) fits = fits

pub left_before_fits : (port : StreamPort) (pace : Pace) (steps : List Step) (view : EndView) (c : ℕ) → All (StepFits port) steps → All (StepFits port) (left_before pace steps view c)
left_before_fits port pace steps view zero fits = fits
left_before_fits port pace steps view (suc c) fits = left_fits port _ (left_before pace steps view c) (left_before_fits port pace steps view c fits)

pub next_fits : (port : StreamPort) (may : Bool) (steps : List Step) → All (StepFits port) steps → FitsSource port (unwrap_or (next_beat may steps) no_beat)
next_fits port may [] fits = silence_fits port
next_fits port may (Quiet ∷ later) fits = silence_fits port
next_fits port true (Sends beat ∷ later) fits = fits 0 (Sends beat) (omega arith)
next_fits port false (Sends beat ∷ later) fits = silence_fits port

-- ---- sinks

pub sink_fits : (port : StreamPort) (script : List Pattern) (c : ℕ) → IsSinkScript port script → FitsReady port (ready_in script c)
sink_fits port [] c fits = ready_fits port.ready true (λ none. refl)
sink_fits port (pattern ∷ others) c fits =
    let first : FitsStall port.ready pattern = fits.each 0 pattern (omega arith) in
    ready_fits port.ready (ready_in (pattern ∷ others) c) (λ none. let both : true ≡ false = sym first.stalls ∙ none in absurd (cc))
