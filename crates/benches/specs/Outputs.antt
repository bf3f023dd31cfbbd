-- What stands at the outputs of a module in the present cycle of a simulator.
use Rattle.std.specs.Prelude.{ℕ, ◌≤◌, Option, Some, None}
use Rattle.netlist.specs.Netlists.{Netlist, IsOutputPort}
use Rattle.netlist.specs.Signals.{port_net}
use Rattle.cycle_sim.specs.Sims.{SimValue, present}

-- the level of the net at an output, and a stated one where there is no port
abbrev pub level_now : SimValue → ℕ → Option ℕ → ℕ
level_now sim absent None = absent
level_now sim absent (Some port) = (present sim).net (port_net sim.netlist port)

-- a port is an output of at most so many bits
pub record IsOutputWithin (netlist : Netlist) (most port : ℕ) : Type 0 where
  pub width : ℕ
  pub is : IsOutputPort netlist.ports port width
  pub few : width ≤ most

-- and so it is where there is one
abbrev pub IsOutputIf : Netlist → ℕ → Option ℕ → Type 0
IsOutputIf netlist most None = Unit {0}
IsOutputIf netlist most (Some port) = IsOutputWithin netlist most port
