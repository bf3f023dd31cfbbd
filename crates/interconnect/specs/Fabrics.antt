-- What stands between the hosts and agents of a plan, and drives the outputs at them.
use Rattle.std.specs.Prelude.{◌≡◌, ℕ, length, Some, slice_get}
use Rattle.system_tables.specs.Tables.{SystemTable}
use Rattle.address_map.specs.Maps.{hosts_of, agents_of}
use Rattle.link_rules.specs.PlanConnections.{memory_connections}
use Rattle.link_rules.specs.Plans.{PlanTable}
use Rattle.netlist.specs.Netlists.{Netlist}
use Rattle.net_parts.specs.Growth.{GrowsInMemory, StillWait, StillWaitForWrite}
use Rattle.mm_fabric.specs.declared.parts.HostPart.{HostPart}
use Rattle.mm_fabric.specs.declared.parts.AgentPart.{AgentPart}
use Rattle.mm_fabric.specs.declared.fabric.FabricParts.{FabricParts}
use Rattle.mm_fabric.specs.Ends.{AreParts, host_end_of, agent_end_of, fabric_nets, fabric_memories}
use Rattle.interconnect.specs.Each.{AreEachDriven}
use Rattle.interconnect.specs.Hosts.{IsHostIn, host_outputs}
use Rattle.interconnect.specs.Agents.{IsAgentIn, agent_outputs}

-- the most nets that the hosts and agents of a system take
abbrev pub memory_nets : SystemTable → ℕ
memory_nets system = fabric_nets (length (hosts_of system)) (length (agents_of system)) (length (memory_connections system))

-- and the most memories
abbrev pub system_memories : SystemTable → ℕ
system_memories system =
    fabric_memories (length (hosts_of system)) (length (agents_of system)) (length (memory_connections system))

-- a part for each host and each agent, by their numbers
pub record ArePartsOf (system : SystemTable) (parts : FabricParts) : Type 0 where
  pub many_hosts : length parts.hosts ≡ length (hosts_of system)
  pub hosts : (h : ℕ) (part : HostPart) → slice_get parts.hosts h ≡ Some part → IsHostIn system h (host_end_of part)
  pub many_agents : length parts.agents ≡ length (agents_of system)
  pub agents : (a : ℕ) (part : AgentPart) → slice_get parts.agents a ≡ Some part → IsAgentIn system a (agent_end_of part)

-- the parts were added
pub record AddsFabric (plan : PlanTable) (old new : Netlist) (parts : FabricParts) : Type 0 where
  pub of : ArePartsOf plan.system parts
  pub stands : AreParts plan new parts
  pub grows : GrowsInMemory (memory_nets plan.system) (system_memories plan.system) old new
  pub no_more_wait : StillWait new old
  pub no_more_wait_for_write : StillWaitForWrite new old

-- the parts stand, and drive the outputs at each host and each agent
pub record IsJoinedMemory (plan : PlanTable) (netlist : Netlist) (parts : FabricParts) : Type 0 where
  pub of : ArePartsOf plan.system parts
  pub stands : AreParts plan netlist parts
  pub hosts_driven : AreEachDriven plan.system host_outputs (hosts_of plan.system) parts.hosts netlist
  pub agents_driven : AreEachDriven plan.system agent_outputs (agents_of plan.system) parts.agents netlist

pub record HasFabric (plan : PlanTable) (netlist : Netlist) : Type 0 where
  pub parts : FabricParts
  pub joined : IsJoinedMemory plan netlist parts
