-- A plan: a system that no rule and no limit refuses, and the maps of its hosts.
use Rattle.std.specs.Prelude.{◌≡◌, ℕ, List, [], Option, Some, None, slice_get}
use Rattle.std.specs.Option.{option_map_or}
use Rattle.iface_roles.specs.declared.records.HostPort.{HostPort}
use Rattle.iface_roles.specs.declared.records.AgentPort.{AgentPort}
use Rattle.iface_roles.specs.declared.records.Finished.TheVariants.{Host, Agent}
use Rattle.system_tables.specs.declared.tables.EndId.{EndId}
use Rattle.system_tables.specs.Tables.{SystemTable, InstanceTable, IsSystem}
use Rattle.address_map.specs.Footprints.{known_at}
use Rattle.address_map.specs.declared.host_map.MapEntry.{MapEntry}
use Rattle.address_map.specs.Maps.{AreMapsOf, hosts_of, agents_of}
use Rattle.link_rules.specs.Links.{KeepsLinkRules, limit_tests, streams_of}
use Rattle.link_rules.specs.Pairs.{KeepsAll}
use Rattle.link_rules.specs.PlanConnections.{stream_connections, memory_connections}
use Rattle.link_rules.specs.declared.plan_connections.MemoryConnection.{MemoryConnection}
use Rattle.link_rules.specs.declared.plan_connections.StreamConnection.{StreamConnection}

-- the name of the instance at an end; empty where there is none
abbrev pub instance_name_at : SystemTable → EndId → List ℕ
instance_name_at system end = option_map_or (λ instance. instance.name) (slice_get system.instances end.instance) []

-- the name of an interface of the instance
abbrev pub interface_name_of : Option InstanceTable → ℕ → List ℕ
interface_name_of None interface = []
interface_name_of (Some instance) interface = option_map_or (λ table. table.name) (slice_get instance.interfaces interface) []

-- the name of the interface at an end; empty where there is none
abbrev pub interface_name_at : SystemTable → EndId → List ℕ
interface_name_at system end = interface_name_of (slice_get system.instances end.instance) end.interface

-- the host, or the agent, of this number and its record
pub record IsHostAt (system : SystemTable) (number : ℕ) (port : HostPort) : Type 0 where
  pub end : EndId
  pub end_is : slice_get (hosts_of system) number ≡ Some end
  pub is : known_at system end ≡ Host port

pub record IsAgentAt (system : SystemTable) (number : ℕ) (port : AgentPort) : Type 0 where
  pub end : EndId
  pub end_is : slice_get (agents_of system) number ≡ Some end
  pub is : known_at system end ≡ Agent port

pub record PlanTable : Type 0 where
  pub system : SystemTable
  pub maps : List (List MapEntry)

-- no rule and no limit refuses the system, and the maps are its own
pub record IsPlan (plan : PlanTable) : Type 0 where
  pub system : IsSystem plan.system
  pub maps : AreMapsOf plan.system plan.maps
  pub links : (k : ℕ) → KeepsLinkRules plan.system k
  pub limits : KeepsAll (limit_tests plan.system)

-- what is kept beside a plan
pub record AreNumbered (plan : PlanTable) (hosts agents : List EndId) (streams : List ℕ) (stream_list : List StreamConnection)
    (memory_list : List MemoryConnection) : Type 0 where
  pub is_plan : IsPlan plan
  pub hosts_are : hosts ≡ hosts_of plan.system
  pub agents_are : agents ≡ agents_of plan.system
  pub streams_are : streams ≡ streams_of plan.system
  pub stream_connections_are : stream_list ≡ stream_connections plan.system
  pub memory_connections_are : memory_list ≡ memory_connections plan.system
