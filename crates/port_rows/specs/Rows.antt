-- What stands at the ports of a plan's module in a cycle, as rows of values hold it.
use Rattle.std.specs.Prelude.{◌≡◌, ◌<◌, ℕ, List, length, map, filter, not, Option, Some, None}
use Rattle.std.specs.Option.{option_map}
use Rattle.av_base.specs.Word.{Word, word}
use Rattle.system_tables.specs.declared.tables.EndId.{EndId}
use Rattle.system_tables.specs.Tables.{SystemTable}
use Rattle.netlist.specs.declared.line.PortLine.{PortLine}
use Rattle.netlist.specs.Netlists.{Netlist, IsModule, IsInputPort, input_net}
use Rattle.netlist.specs.Runs.{Run, IsValuation, cycle_of}
use Rattle.netlist.specs.Signals.{signal, port_net}
use Rattle.cycle_sim.specs.Sims.{bits_at, given_to}
use Rattle.stream_runs.specs.Ends.{signal_or}
use Rattle.port_tables.specs.declared.roles.PortRole.{PortRole}
use Rattle.port_tables.specs.Ports.{role_word, port_name, name_at, ports_of}
use Rattle.port_tables.specs.PortMaps.{port_at}
use Rattle.port_rows.specs.Levels.{width_in}

-- a value of 0 for each input port, in header order
abbrev pub blank_row : List PortLine → List Word
blank_row ports = map (λ (port : PortLine). word port.width 0) (filter (λ (port : PortLine). not port.output) ports)

-- where the value of a port stands among those of all inputs, where there is such a port
abbrev pub place_among : List PortLine → Option ℕ → Option ℕ
place_among ports port = option_map (input_net ports) port

-- the bits at a place of a row, and a stated level where there is no place
abbrev pub level_in : List Word → ℕ → Option ℕ → ℕ
level_in row absent None = absent
level_in row absent (Some place) = bits_at row place

-- the level of the net at a port, and a stated one where there is no port
abbrev pub level_of : Netlist → Run → ℕ → ℕ → Option ℕ → ℕ
level_of netlist run c absent None = absent
level_of netlist run c absent (Some port) = run.net c (port_net netlist port)

-- the module of a system in a cycle of a run, whose inputs are those of a row
pub record IsGivenRow (system : SystemTable) (netlist : Netlist) (run : Run) (c : ℕ) (row : List Word) : Type 0 where
  pub is_module : IsModule netlist
  pub ports : netlist.ports ≡ ports_of system
  pub valuation : IsValuation netlist (cycle_of run c)
  pub inputs : (k w : ℕ) → IsInputPort netlist.ports k w → run.input c k ≡ given_to netlist row k

-- a role whose port is an input, where the end has it
abbrev pub IsInputRole : SystemTable → EndId → PortRole → Type 0
IsInputRole system end role = (port : ℕ) → port_at system end role ≡ Some port → (w : ℕ) × IsInputPort (ports_of system) port w

-- the level that a run shows at the port of a role in a cycle, found by the port's name
abbrev pub shown_at : SystemTable → Netlist → Run → EndId → PortRole → ℕ → ℕ → ℕ
shown_at system netlist run end role absent c =
    signal_or absent (signal netlist run (port_name (name_at system end) (role_word role))) c

-- a place of a row, of this width
pub record IsPlace (row : List Word) (place width : ℕ) : Type 0 where
  pub there : place < length row
  pub wide : width_in row place ≡ width
