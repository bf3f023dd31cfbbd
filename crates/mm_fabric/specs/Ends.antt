-- The hosts and agents that a fabric is made for, and that its parts are those of the plan.
use Rattle.std.specs.Prelude.{◌≡◌, ℕ, ◌+◌, ◌*◌, ◌<◌, List, length, Some, slice_get}
use Rattle.address_map.specs.Maps.{hosts_of, agents_of}
use Rattle.link_rules.specs.Plans.{PlanTable}
use Rattle.netlist.specs.Netlists.{Netlist}
use Rattle.memory_plans.specs.Systems.{memory_system}
use Rattle.mm_host.specs.Hosts.{AreHostNets}
use Rattle.mm_agent.specs.Agents.{AreAgentNets}
use Rattle.memory_plans.specs.Maps.{IsHostOf, IsAgentOf}
use Rattle.mm_fabric.specs.declared.begun.HostEnd.{HostEnd}
use Rattle.mm_fabric.specs.declared.asks.AgentEnd.{AgentEnd}
use Rattle.mm_fabric.specs.declared.parts.HostPart.{HostPart}
use Rattle.mm_fabric.specs.declared.parts.AgentPart.{AgentPart}
use Rattle.mm_fabric.specs.declared.fabric.FabricParts.{FabricParts}
use Rattle.mm_width.specs.Widths.{width_command_nets, width_answer_nets, width_memories}
use Rattle.mm_fabric.specs.Begun.{begun_nets}
use Rattle.mm_fabric.specs.Joined.{most_agent_nets}
use Rattle.mm_fabric.specs.Finished.{finished_nets}
use Rattle.mm_fabric.specs.Fabrics.{Fabric, IsFabric}

-- ---- what is given

-- the ports of the host of this number, and its nets
pub record IsHost (plan : PlanTable) (netlist : Netlist) (number : ℕ) (end : HostEnd) : Type 0 where
  pub port : IsHostOf plan number end.port
  pub nets : AreHostNets netlist end.port end.nets

-- all hosts of the plan
pub record AreHosts (plan : PlanTable) (netlist : Netlist) (ends : List HostEnd) : Type 0 where
  pub many : length ends ≡ length (hosts_of plan.system)
  pub each : (h : ℕ) (end : HostEnd) → slice_get ends h ≡ Some end → IsHost plan netlist h end

pub record IsAgent (plan : PlanTable) (netlist : Netlist) (number : ℕ) (end : AgentEnd) : Type 0 where
  pub port : IsAgentOf plan number end.port
  pub nets : AreAgentNets netlist end.port end.nets

pub record AreAgents (plan : PlanTable) (netlist : Netlist) (ends : List AgentEnd) : Type 0 where
  pub many : length ends ≡ length (agents_of plan.system)
  pub each : (a : ℕ) (end : AgentEnd) → slice_get ends a ≡ Some end → IsAgent plan netlist a end

-- ---- what is made

abbrev pub host_end_of : HostPart → HostEnd
host_end_of part = record { port = part.port; nets = part.held.nets }

abbrev pub agent_end_of : AgentPart → AgentEnd
agent_end_of part = record { port = part.port; nets = part.nets }

-- by their numbers these are the parts
pub record HasParts (plan : PlanTable) (parts : FabricParts) (fabric : Fabric) : Type 0 where
  pub hosts : (h : ℕ) → h < (memory_system plan).hosts → slice_get parts.hosts h ≡ Some (fabric.host h)
  pub agents : (a : ℕ) → a < (memory_system plan).agents → slice_get parts.agents a ≡ Some (fabric.agent a)

-- the parts are those of the plan, joined as it says
abbrev pub AreParts : PlanTable → Netlist → FabricParts → Type 0
AreParts plan netlist parts = (fabric : Fabric) → HasParts plan parts fabric → IsFabric plan netlist fabric

-- the most nets that so many hosts and agents with so many links take
abbrev pub fabric_nets : ℕ → ℕ → ℕ → ℕ
fabric_nets hosts agents links =
    (begun_nets + finished_nets) * hosts + most_agent_nets * agents + (width_command_nets + width_answer_nets) * links

-- and the most memories
abbrev pub fabric_memories : ℕ → ℕ → ℕ → ℕ
fabric_memories hosts agents links = hosts + agents + width_memories * links
