-- Registers and choices of all nets of a beat at once.
use Rattle.std.specs.Prelude.{◌≡◌, ℕ, ◌+◌, ◌<◌, ◌≤◌, ◌==◌, if◌then◌else◌}
use Rattle.netlist.specs.Nets.{NetValue}
use Rattle.netlist.specs.Netlists.{Netlist, IsWaiting}
use Rattle.netlist.specs.Runs.{Cycle, Run, cycle_of, IsRun}
use Rattle.stream_runs.specs.View.{Beat}
use Rattle.stage_core.specs.declared.beat.BeatNets.{BeatNets}
use Rattle.stage_core.specs.Beats.{beat_in}

-- valid and the beat on these nets in a cycle
pub record Shown : Type 0 where
  pub valid : ℕ
  pub beat : Beat

abbrev pub shown_in : Cycle → BeatNets → Shown
shown_in cycle nets = record { valid = cycle.net nets.valid.number; beat = beat_in cycle nets }

-- no beat, and all signals low
abbrev pub nothing_shown : Shown
nothing_shown = record { valid = 0; beat = record { word = 0; channel = 0; error = 0; first = 0; last = 0; empty = 0 } }

-- the nets have seven numbers in a row, from this one on
pub record AreNumbered (nets : BeatNets) (from : ℕ) : Type 0 where
  pub valid : nets.valid.number ≡ from
  pub word : nets.word.number ≡ from + 1
  pub channel : nets.channel.number ≡ from + 2
  pub error : nets.error.number ≡ from + 3
  pub first : nets.first.number ≡ from + 4
  pub last : nets.last.number ≡ from + 5
  pub empty : nets.empty.number ≡ from + 6

-- the number is one of seven in a row that begin with that of valid
pub record IsOfBeat (nets : BeatNets) (n : ℕ) : Type 0 where
  pub from : nets.valid.number ≤ n
  pub below : n < nets.valid.number + 7

-- the nets are registers that wait for their next nets, and have the seven numbers from this one on
pub record AreRegisters (netlist : Netlist) (nets : BeatNets) (from : ℕ) : Type 0 where
  pub numbers : AreNumbered nets from
  pub wait : (n : ℕ) → IsOfBeat nets n → IsWaiting netlist n

-- in each run they begin low
abbrev pub StartsEmpty : Netlist → BeatNets → Type 0
StartsEmpty netlist nets =
    (run : Run) (cycles : ℕ) → IsRun netlist run cycles → 0 < cycles → shown_in (cycle_of run 0) nets ≡ nothing_shown

-- in each run they show what the other nets showed in the cycle before, where the bit was high, and else what they showed
abbrev pub LoadsBeat : Netlist → BeatNets → NetValue → BeatNets → Type 0
LoadsBeat netlist nets loads next =
    (run : Run) (cycles : ℕ) → IsRun netlist run cycles → (c : ℕ) → c + 1 < cycles
    → shown_in (cycle_of run (c + 1)) nets
    ≡ (if run.net c loads.number == 1 then shown_in (cycle_of run c) next else shown_in (cycle_of run c) nets)

-- the nets show in the cycle what one beat's nets show where the bit is high, and else what the other's show
abbrev pub Chooses : Cycle → ℕ → BeatNets → BeatNets → BeatNets → Type 0
Chooses cycle bit one other nets = shown_in cycle nets ≡ (if bit == 1 then shown_in cycle one else shown_in cycle other)
