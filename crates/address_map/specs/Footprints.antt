-- The bytes that agents take in the maps of their hosts.
pub use Rattle.address_map.specs.declared.footprint.Footprint.{Footprint}
use Rattle.std.specs.Prelude.{◌^◌, ◌<◌, ◌≤◌, ℕ, max, List, Option, Some, None, map, slice_get}
use Rattle.std.specs.Option.{option_map_or}
use Rattle.iface_roles.specs.declared.records.AgentPort.{AgentPort}
use Rattle.iface_roles.specs.declared.records.Finished.{Finished}
use Rattle.iface_roles.specs.declared.records.Finished.TheVariants.{Host, Agent, Other}
use Rattle.iface_roles.specs.declared.records.HostPort.{HostPort}
use Rattle.iface_roles.specs.Proper.{range_of, span_of}
use Rattle.system_tables.specs.declared.tables.Connection.{Connection}
use Rattle.system_tables.specs.declared.tables.EndId.{EndId}
use Rattle.system_tables.specs.Tables.{InstanceTable, SystemTable}

-- what is known of an interface of the instance, `Other` where there is none
abbrev pub known_of : Option InstanceTable → ℕ → Finished
known_of None interface = Other
known_of (Some instance) interface = option_map_or (λ table. table.finished) (slice_get instance.interfaces interface) Other

-- what is known of the interface at an end
abbrev pub known_at : SystemTable → EndId → Finished
known_at system end = known_of (slice_get system.instances end.instance) end.interface

-- the bytes that an agent takes in the map of a host: its span, or the host's word where that is larger
abbrev pub footprint_bytes : HostPort → AgentPort → ℕ
footprint_bytes host agent = max (span_of agent) host.word_bytes

-- the footprint of a connection of two such ends; a stream has none
abbrev pub footprint_as : Connection → Finished → Finished → Option Footprint
footprint_as connection (Host host) (Agent agent) = Some (record {
  host = connection.start;
  range = range_of host;
  base = connection.base;
  bytes = footprint_bytes host agent;
  reads = agent.reads;
  writes = agent.writes;
})
footprint_as connection _ _ = None

abbrev pub footprint_of : SystemTable → Connection → Option Footprint
footprint_of system connection = footprint_as connection (known_at system connection.start) (known_at system connection.end)

-- the footprints of a system's connections, by their numbers
abbrev pub footprints : SystemTable → List (Option Footprint)
footprints system = map (footprint_of system) system.connections

-- its numbers are those of 32 bits, and it has a byte
pub record IsFit (f : Footprint) : Type 0 where
  pub range : f.range ≤ 2 ^ 32
  pub base : f.base < 2 ^ 32
  pub some : 1 ≤ f.bytes
  pub bytes : f.bytes ≤ 2 ^ 32
