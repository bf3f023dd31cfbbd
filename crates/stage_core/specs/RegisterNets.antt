-- A register for one beat: what its two calls leave in a netlist.
use Rattle.std.specs.Prelude.{◌≡◌, ℕ, ◌+◌, ◌<◌, not, ◌||◌, ◌==◌, if◌then◌else◌}
use Rattle.netlist.specs.Nets.{NetValue}
use Rattle.netlist.specs.Netlists.{Netlist, IsWaiting}
use Rattle.netlist.specs.Runs.{Run, cycle_of, IsRun, Always}
use Rattle.netlist.specs.Longer.{Extends}
use Rattle.stream_machines.specs.Stage.{Shape, PassesAll}
use Rattle.stream_machines.specs.Buffers.{buffer_shape}
use Rattle.stage_core.specs.declared.beat.BeatNets.{BeatNets}
use Rattle.stage_core.specs.declared.register.RegisterKept.{RegisterKept}
use Rattle.stage_core.specs.Beats.{AreBeatNets, HaveSameWidths}
use Rattle.stage_core.specs.Groups.{shown_in, AreNumbered, IsOfBeat, AreRegisters, StartsEmpty}
use Rattle.stage_core.specs.Lasting.{beat_lasts, registers_last}

-- a stage that holds so many beats, between sides of ready latency 0 that are the same but for an allowance, with a test
-- that all channels pass
pub record IsBufferShape (places : ℕ) (shape : Shape) : Type 0 where
  pub is : shape ≡ buffer_shape shape.passes places shape.up
  pub at_once : shape.up.pace.latency ≡ 0
  pub some : 0 < shape.up.symbols
  pub passes : PassesAll shape.passes shape.up

-- between the calls: the registers wait, and are as wide as the beat that they take
pub record RegisterKeeps (kept : RegisterKept) (netlist : Netlist) : Type 0 where
  pub from : AreBeatNets netlist kept.from
  pub nets : AreBeatNets netlist kept.registers
  pub widths : HaveSameWidths kept.registers kept.from
  pub registers : AreRegisters netlist kept.registers kept.registers.valid.number

-- after the first call: the registers are the downstream beat, and begin low
pub record RegisterForward (from to : BeatNets) (kept : RegisterKept) (netlist : Netlist) : Type 0 where
  pub from_is : from ≡ kept.from
  pub to_is : to ≡ kept.registers
  pub nets : AreBeatNets netlist kept.registers
  pub numbers : AreNumbered kept.registers kept.registers.valid.number
  pub starts : StartsEmpty netlist kept.registers

-- after the second call: ready is shown where there is room, and there the registers take what is shown upstream
pub record RegisterBackward (kept : RegisterKept) (ready up : NetValue) (netlist : Netlist) : Type 0 where
  pub asks : Always netlist (λ cycle. (cycle.net up.number == 1)
      ≡ (not (cycle.net kept.registers.valid.number == 1) || (cycle.net ready.number == 1)))
  pub moves : (run : Run) (cycles : ℕ) → IsRun netlist run cycles → (c : ℕ) → c + 1 < cycles
      → shown_in (cycle_of run (c + 1)) kept.registers
      ≡ (if run.net c up.number == 1 then shown_in (cycle_of run c) kept.from else shown_in (cycle_of run c) kept.registers)

-- ---- what stands lasts

pub keeps_lasts : (kept : RegisterKept) (old new : Netlist) → RegisterKeeps kept old → Extends old new
    → ((n : ℕ) → IsOfBeat kept.registers n → IsWaiting old n → IsWaiting new n) → RegisterKeeps kept new
keeps_lasts kept old new h e w = record {
  from = beat_lasts old new kept.from e h.from;
  nets = beat_lasts old new kept.registers e h.nets;
  widths = h.widths;
  registers = registers_last old new kept.registers kept.registers.valid.number w h.registers;
}

pub forward_lasts : (from to : BeatNets) (kept : RegisterKept) (old new : Netlist) → RegisterForward from to kept old
    → Extends old new → RegisterForward from to kept new
forward_lasts from to kept old new h e = record {
  from_is = h.from_is;
  to_is = h.to_is;
  nets = beat_lasts old new kept.registers e h.nets;
  numbers = h.numbers;
  starts = λ run cycles r. h.starts run cycles (e.runs run cycles r);
}

pub backward_lasts : (kept : RegisterKept) (ready up : NetValue) (old new : Netlist) → RegisterBackward kept ready up old
    → Extends old new → RegisterBackward kept ready up new
backward_lasts kept ready up old new h e = record {
  asks = λ cycle v. h.asks cycle (e.valuations cycle v);
  moves = λ run cycles r. h.moves run cycles (e.runs run cycles r);
}
