-- The routes of the hosts of a plan as what the parts that send commands by address ask of them.
use Rattle.std.specs.Prelude.{◌≡◌, ℕ}
use Rattle.iface_roles.specs.declared.records.Finished.TheVariants.{Host, Agent}
use Rattle.iface_roles.specs.declared.records.AgentPort.{AgentPort}
use Rattle.iface_roles.specs.declared.records.HostPort.{HostPort}
use Rattle.iface_roles.specs.Proper.{IsBoundedHost, IsBoundedAgent}
use Rattle.address_map.specs.Maps.{hosts_of, agents_of}
use Rattle.link_rules.specs.declared.plan_connections.MemoryConnection.{MemoryConnection}
use Rattle.link_rules.specs.Plans.{PlanTable}
use Rattle.memory_runs.specs.Views.{Shape}
use Rattle.memory_plans.specs.Routes.{routes_of}
use Rattle.memory_plans.specs.Systems.{known_in, memory_system}
use Rattle.mm_route.specs.Entries.{AreEntries}
use Rattle.mm_route.specs.Machine.{MapsAs}

-- the host of this number in the plan has these ports
abbrev pub IsHostOf : PlanTable → ℕ → HostPort → Type 0
IsHostOf plan host port = known_in plan.system (hosts_of plan.system) host ≡ Host port

abbrev pub IsAgentOf : PlanTable → ℕ → AgentPort → Type 0
IsAgentOf plan agent port = known_in plan.system (agents_of plan.system) agent ≡ Agent port

-- there is such a host, and its ports fit the tables
pub record HasHost (plan : PlanTable) (host : ℕ) : Type 0 where
  pub port : HostPort
  pub is : IsHostOf plan host port
  pub bounded : IsBoundedHost port

pub record HasAgent (plan : PlanTable) (agent : ℕ) : Type 0 where
  pub port : AgentPort
  pub is : IsAgentOf plan agent port
  pub bounded : IsBoundedAgent port

-- the ports of a link are those of its numbers
pub record JoinsEnds (plan : PlanTable) (link : MemoryConnection) : Type 0 where
  pub host : IsHostOf plan link.host_number link.host
  pub agent : IsAgentOf plan link.agent_number link.agent

-- a shape with the words of the host whose addresses count bytes, as behind the part next to a host
pub record CountsBytes (port : HostPort) (shape : Shape) : Type 0 where
  pub words : shape.word_bytes ≡ port.word_bytes
  pub units : shape.unit_bytes ≡ 1

-- the routes of a host are entries for byte addresses of so many bits, and are the map of the host
pub record RoutesAreMapped (plan : PlanTable) (host : ℕ) (port : HostPort) (width : ℕ) : Type 0 where
  pub entries : AreEntries width (routes_of plan.system host)
  pub maps : (shape : Shape) → CountsBytes port shape → MapsAs (routes_of plan.system host) width (memory_system plan) host shape
