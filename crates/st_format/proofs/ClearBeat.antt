-- The empty symbols of a beat that went through the stage that clears them are 0.
use Rattle.std.proofs.Common.{◌≡◌, ℕ, true, refl, ◌∙◌}
use Rattle.netlist.specs.Netlists.{Netlist}
use Rattle.netlist.specs.Runs.{Cycle, IsValuation}
use Rattle.stream_runs.specs.View.{EndView, Side, beat_at}
use Rattle.stream_machines.specs.Wires.{IsClearRun}
use Rattle.stream_machines.specs.Words.{HasClearEmpty}
use Rattle.stage_core.specs.declared.beat.BeatNets.{BeatNets}
use Rattle.stage_core.specs.Beats.{beat_in}
use Rattle.st_format.specs.ClearNets.{ClearsBeat}
use Rattle.st_format.proofs.ClearLaw.{clears_alike}

-- an end that shows in each cycle what these nets show in one
abbrev shows_always : Cycle → BeatNets → EndView
shows_always cycle beat = record {
  valid = λ _. cycle.net beat.valid.number;
  word = λ _. cycle.net beat.word.number;
  channel = λ _. cycle.net beat.channel.number;
  error = λ _. cycle.net beat.error.number;
  first = λ _. cycle.net beat.first.number;
  last = λ _. cycle.net beat.last.number;
  empty = λ _. cycle.net beat.empty.number;
  ready = λ _. 0;
}

pub beat_clear : ((side : Side) (up down : EndView) → IsClearRun side up down → side.first_high ≡ true → (c : ℕ) → HasClearEmpty side (beat_at down c)) →
    (symbols bits : ℕ) (from to : BeatNets) (netlist : Netlist) → ClearsBeat symbols bits from to netlist → (side : Side) → side.symbols ≡ symbols → side.symbol_bits ≡ bits → side.first_high ≡ true → (cycle : Cycle) → IsValuation netlist cycle → HasClearEmpty side (beat_in cycle to)
beat_clear clears symbols bits from to netlist f side symbols_are bits_are high cycle v =
    clears side (shows_always cycle from) (shows_always cycle to)
    (record { asks = λ _. refl; valid = λ _. rw f.valid refl; shows = λ _. f.shows cycle v ∙ clears_alike side symbols bits (beat_in cycle from) symbols_are bits_are })
    high 0
