-- The values at the ports of a module, cycle by cycle.
use Rattle.std.specs.Prelude.{◌≡◌, ℕ, zero, suc, ◌+◌, List, [], ◌∷◌, ◌++◌, length, map, slice_get, Some}
use Rattle.av_base.specs.Word.{Word, word}
use Rattle.netlist.specs.declared.line.PortLine.{PortLine}
use Rattle.netlist.specs.Netlists.{Netlist, IsInputPort}
use Rattle.netlist.specs.Runs.{Cycle, Run, cycle_of}
use Rattle.netlist.specs.Signals.{port_net}
use Rattle.cycle_sim.specs.Sims.{given_to}
use Rattle.cycle_sim.specs.Standing.{IsClearedRun}
use Rattle.vcd_text.specs.Dumps.{port_of}
use Rattle.vcd_text.specs.Text.{DumpValue}

-- the values in a cycle at the ports from port k on
abbrev pub port_row : Netlist → Cycle → ℕ → List PortLine → List Word
port_row netlist cycle k [] = []
port_row netlist cycle k (port ∷ ports) = word port.width (cycle.net (port_net netlist k)) ∷ port_row netlist cycle (k + 1) ports

-- the values at all ports in each of the first cycles of a run
abbrev pub run_rows : Netlist → Run → ℕ → List (List Word)
run_rows netlist run zero = []
run_rows netlist run (suc cycles) = run_rows netlist run cycles ++ port_row netlist (cycle_of run cycles) 0 netlist.ports ∷ []

-- the dump of a run of so many cycles
abbrev pub dump_of : Netlist → Run → ℕ → DumpValue
dump_of netlist run cycles = record { name = netlist.name; ports = map port_of netlist.ports; rows = run_rows netlist run cycles }

-- A run of a module on these rows of inputs: it begins with the reset values and with memories of 0, and its inputs in each cycle
-- are the values of the row, one for each input port in header order.
pub record IsRunOn (netlist : Netlist) (rows : List (List Word)) (run : Run) : Type 0 where
  pub is_run : IsClearedRun netlist run (length rows)
  pub inputs : (c : ℕ) (row : List Word) → slice_get rows c ≡ Some row → (k w : ℕ) → IsInputPort netlist.ports k w
      → run.input c k ≡ given_to netlist row k
