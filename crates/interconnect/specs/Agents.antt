-- The agents of a system: the nets at their ports that the module reads, and what drives the others.
use Rattle.std.specs.Prelude.{◌≡◌, ◌*◌, ℕ, length, List, [], ◌∷◌, Some, unwrap_or, slice_get}
use Rattle.iface_roles.specs.declared.records.AgentPort.{AgentPort}
use Rattle.iface_roles.specs.declared.records.Finished.TheVariants.{Agent}
use Rattle.iface_roles.specs.Proper.{IsBoundedAgent}
use Rattle.system_tables.specs.declared.tables.EndId.{EndId}
use Rattle.system_tables.specs.Tables.{SystemTable}
use Rattle.address_map.specs.Footprints.{known_at}
use Rattle.address_map.specs.Maps.{agents_of}
use Rattle.netlist.specs.Nets.{NetValue}
use Rattle.netlist.specs.Netlists.{Netlist}
use Rattle.mm_agent.specs.declared.nets.AgentNets.{AgentNets}
use Rattle.mm_agent.specs.Agents.{AreAgentNets}
use Rattle.mm_fabric.specs.declared.asks.AgentEnd.{AgentEnd}
use Rattle.mm_fabric.specs.declared.parts.AgentPart.{AgentPart}
use Rattle.port_tables.specs.declared.roles.PortRole.{PortRole}
use Rattle.port_tables.specs.declared.roles.PortRole.TheVariants as role
use Rattle.interconnect.specs.declared.outputs.Output.{Output}
use Rattle.interconnect.specs.Outputs.{input_at, outputs_by}

-- ---- inputs

-- the nets of an agent's ports that the module reads
abbrev pub agent_inputs : SystemTable → EndId → AgentPort → AgentNets
agent_inputs system end port = record {
  waitrequest = input_at system end role.WaitRequest 1;
  readdata = input_at system end role.ReadData (port.word_bytes * 8);
  readdatavalid = input_at system end role.ReadDataValid 1;
  response = input_at system end role.Response 2;
}

-- the ports of the agent of this number, and its nets
pub record IsAgentIn (system : SystemTable) (number : ℕ) (agent : AgentEnd) : Type 0 where
  pub end : EndId
  pub end_is : slice_get (agents_of system) number ≡ Some end
  pub port_is : known_at system end ≡ Agent agent.port
  pub bounded : IsBoundedAgent agent.port
  pub inputs : agent.nets ≡ agent_inputs system end agent.port

-- the first agents
pub record AreAgentsIn (system : SystemTable) (netlist : Netlist) (count : ℕ) (agents : List AgentEnd) : Type 0 where
  pub many : length agents ≡ count
  pub each : (a : ℕ) (agent : AgentEnd) → slice_get agents a ≡ Some agent → IsAgentIn system a agent
  pub nets : (a : ℕ) (agent : AgentEnd) → slice_get agents a ≡ Some agent → AreAgentNets netlist agent.port agent.nets

-- ---- outputs

abbrev pub agent_roles : List PortRole
agent_roles = role.Address ∷ role.Read ∷ role.Write ∷ role.WriteData ∷ role.ByteEnable ∷ role.BurstCount ∷ role.Grant ∷ []

-- the net for each output of an agent: the command's own, but for its address and its read
abbrev pub agent_net : AgentPart → PortRole → NetValue
agent_net part role.Address = unwrap_or part.made.address part.command.write
agent_net part role.Read = unwrap_or part.made.read part.command.write
agent_net part role.Write = part.command.write
agent_net part role.WriteData = part.command.word
agent_net part role.ByteEnable = part.command.enables
agent_net part role.BurstCount = part.command.count
agent_net part _ = part.command.tag

abbrev pub agent_outputs : AgentPart → List Output
agent_outputs part = outputs_by (agent_net part) agent_roles
