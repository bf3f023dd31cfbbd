-- What the interconnect of a plan must be: its name, its ports, and what every run of it does.
use Rattle.std.specs.Prelude.{ℕ, ◌≡◌, ◌+◌, ◌≤◌, length, IsTrue}
use Rattle.system_tables.specs.declared.tables.Connection.{Connection}
use Rattle.iface_roles.specs.declared.records.StreamPort.{StreamPort}
use Rattle.link_rules.specs.Links.{weight_of}
use Rattle.link_rules.specs.Plans.{PlanTable}
use Rattle.netlist.specs.Netlists.{Netlist, input_count}
use Rattle.st_timing.specs.Ends.{declared}
use Rattle.port_tables.specs.Ports.{name_at, ports_of, module_name}
use Rattle.port_tables.specs.Wires.{is_wire_stream, wires_before}
use Rattle.interconnect.specs.Streams.{IsStream, ServesStream, IsWired}
use Rattle.interconnect.specs.Memory.{ServesMemory}

-- the module is the interconnect of the plan
pub record IsInterconnect (plan : PlanTable) (netlist : Netlist) : Type 0 where
  pub name : netlist.name ≡ module_name plan.system
  pub ports : netlist.ports ≡ ports_of plan.system
  pub few : length netlist.lines ≤ weight_of plan.system
  -- a stream that is a wire, whose net for `dropped` follows those of the inputs, in the order of the wires
  pub wired : (number : ℕ) (connection : Connection) (source : StreamPort) (sink : StreamPort)
      → IsStream plan.system number connection source sink
      → IsTrue (is_wire_stream (declared source) (declared sink) connection.fifo)
      → IsWired netlist (name_at plan.system connection.start) (name_at plan.system connection.end) (declared source)
      (input_count netlist.ports + wires_before plan.system number)
  pub streams : (number : ℕ) (connection : Connection) (source : StreamPort) (sink : StreamPort)
      → IsStream plan.system number connection source sink
      → ServesStream netlist (name_at plan.system connection.start) (name_at plan.system connection.end) (declared source)
      (declared sink) connection.fifo
  pub memory : ServesMemory plan netlist
