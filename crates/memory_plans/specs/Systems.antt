-- The hosts and agents of a plan, as the system that runs speak of.
use Rattle.std.specs.Prelude.{◌≡◌, ◌<◌, IsTrue, ℕ, Bool, false, ◌&&◌, nat_eq, List, [], Option, map, filter, find, length, slice_get, slice_index_or}
use Rattle.std.specs.Option.{option_map, option_map_or}
use Rattle.iface_roles.specs.declared.records.Finished.{Finished}
use Rattle.iface_roles.specs.declared.records.Finished.TheVariants.{Host, Agent, Other}
use Rattle.system_tables.specs.declared.tables.EndId.{EndId}
use Rattle.system_tables.specs.Tables.{SystemTable}
use Rattle.address_map.specs.declared.host_map.MapEntry.{MapEntry}
use Rattle.address_map.specs.Footprints.{known_at}
use Rattle.address_map.specs.Maps.{Access, place_of, hosts_of, agents_of}
use Rattle.link_rules.specs.declared.plan_connections.MemoryConnection.{MemoryConnection}
use Rattle.link_rules.specs.PlanConnections.{memory_connections, number_in}
use Rattle.link_rules.specs.Plans.{PlanTable}
use Rattle.memory_runs.specs.Sides.{host_side, agent_side}
use Rattle.memory_runs.specs.Views.{Shape, HostSide, AgentSide, Kind, System}
use Rattle.memory_runs.specs.Views.Kind.{Reads, Writes}
use Rattle.memory_runs.specs.Order.{is_joined}

-- what stands for an interface that isn't there, which no plan shows
abbrev pub no_shape : Shape
no_shape = record { word_bytes = 1; unit_bytes = 1; burst_bits = 1; has_enables = false }

abbrev pub no_host : HostSide
no_host = record { shape = no_shape; has_burst = false; has_readdatavalid = false; has_response = false }

abbrev pub no_agent : AgentSide
no_agent = record {
  shape = no_shape;
  has_read = false;
  has_write = false;
  has_burst = false;
  has_waitrequest = false;
  has_readdatavalid = false;
  has_response = false;
  read_latency = 0;
  read_wait = 0;
  write_wait = 0;
  pending = 1;
  span = 1;
}

abbrev pub side_of_host : Finished → HostSide
side_of_host (Host port) = host_side port
side_of_host _ = no_host

abbrev pub side_of_agent : Finished → AgentSide
side_of_agent (Agent port) = agent_side port
side_of_agent _ = no_agent

-- what is known of the end of this number
abbrev pub known_in : SystemTable → List EndId → ℕ → Finished
known_in system ends number = option_map_or (known_at system) (slice_get ends number) Other

-- the link joins this host to this agent
abbrev pub links : ℕ → ℕ → MemoryConnection → Bool
links host agent link = nat_eq link.host_number host && nat_eq link.agent_number agent

abbrev pub link_between : SystemTable → ℕ → ℕ → Option MemoryConnection
link_between system host agent = find (links host agent) (memory_connections system)

-- the hosts joined to an agent, in the order of the connections
abbrev pub hosts_joined : SystemTable → ℕ → List ℕ
hosts_joined system agent =
    map (λ link. link.host_number) (filter (λ link. nat_eq link.agent_number agent) (memory_connections system))

-- the agent at the end of the connection of this number
abbrev pub agent_of : SystemTable → ℕ → ℕ
agent_of system number =
    option_map_or (λ connection. number_in (agents_of system) connection.end) (slice_get system.connections number) 0

abbrev pub access_of : Kind → Access
access_of Reads = Access.Reads
access_of Writes = Access.Writes

-- the agent whose footprint in the map holds a byte address and that has this kind of transfer
abbrev pub place_in : SystemTable → List MapEntry → Kind → ℕ → Option ℕ
place_in system entries kind address = option_map (agent_of system) (place_of entries (access_of kind) address)

-- hosts and agents have the numbers of the plan
abbrev pub memory_system : PlanTable → System
memory_system plan = record {
  hosts = length (hosts_of plan.system);
  agents = length (agents_of plan.system);
  host = λ h. side_of_host (known_in plan.system (hosts_of plan.system) h);
  agent = λ a. side_of_agent (known_in plan.system (agents_of plan.system) a);
  place = λ h kind address. place_in plan.system (slice_index_or plan.maps h []) kind address;
  base = λ h a. option_map_or (λ link. link.base) (link_between plan.system h a) 0;
  joined = hosts_joined plan.system;
  shares = λ h a. option_map_or (λ link. link.shares) (link_between plan.system h a) 0;
  stages = plan.system.stages;
}

-- the system joins the ends of a link, as they are
pub record HasLink (system : System) (link : MemoryConnection) : Type 0 where
  pub host_below : link.host_number < system.hosts
  pub agent_below : link.agent_number < system.agents
  pub host : system.host link.host_number ≡ host_side link.host
  pub agent : system.agent link.agent_number ≡ agent_side link.agent
  pub joined : IsTrue (is_joined system link.agent_number link.host_number)
  pub base : system.base link.host_number link.agent_number ≡ link.base
  pub shares : system.shares link.host_number link.agent_number ≡ link.shares
