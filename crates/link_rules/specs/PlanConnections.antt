-- The links of a plan with the records of both ends: of each source to its sink, and of each host to its agents.
use Rattle.std.specs.Prelude.{◌≡◌, ◌≤◌, ℕ, List, Option, Some, None, unwrap_or, slice_get}
use Rattle.std.specs.List.{filter_map, enumerate_from}
use Rattle.iface_roles.specs.declared.kinds.Kind.TheVariants.{Mm, Stream}
use Rattle.iface_roles.specs.declared.records.Finished.{Finished}
use Rattle.iface_roles.specs.declared.records.Finished.TheVariants.{Host, Agent, Source, Sink}
use Rattle.iface_roles.specs.declared.records.HostPort.{HostPort}
use Rattle.iface_roles.specs.declared.records.AgentPort.{AgentPort}
use Rattle.iface_roles.specs.Proper.{IsProper}
use Rattle.system_tables.specs.declared.tables.Connection.{Connection}
use Rattle.system_tables.specs.declared.tables.EndId.{EndId}
use Rattle.system_tables.specs.Tables.{SystemTable, IsEnd}
use Rattle.address_map.specs.Ends.{place_in}
use Rattle.address_map.specs.Footprints.{known_at}
use Rattle.address_map.specs.Maps.{hosts_of, agents_of}
use Rattle.link_rules.specs.Links.{streams_of}
use Rattle.link_rules.specs.Pairs.{KeepsAll, mm_tests, stream_tests}
use Rattle.link_rules.specs.declared.plan_connections.MemoryConnection.{MemoryConnection}
use Rattle.link_rules.specs.declared.plan_connections.StreamConnection.{StreamConnection}

-- the link of a connection whose ends are a source and a sink
abbrev pub stream_connection_as : ℕ → Connection → Finished → Finished → Option StreamConnection
stream_connection_as number connection (Source source) (Sink sink) = Some (record {
  connection = number;
  source_end = connection.start;
  sink_end = connection.end;
  source = source;
  sink = sink;
  fifo = connection.fifo;
})
stream_connection_as number connection _ _ = None

-- the link of a connection, by its number
abbrev pub stream_connection : SystemTable → ℕ × Connection → Option StreamConnection
stream_connection system numbered =
    stream_connection_as numbered.0 numbered.1 (known_at system numbered.1.start) (known_at system numbered.1.end)

-- the links of the streams, by the streams' numbers
abbrev pub stream_connections : SystemTable → List StreamConnection
stream_connections system = filter_map (stream_connection system) (enumerate_from 0 system.connections)

-- the number of an end among others
abbrev pub number_in : List EndId → EndId → ℕ
number_in ends end = unwrap_or (place_in ends end) 0

-- the link of a connection whose ends are a host and an agent
abbrev pub memory_connection_as : List EndId → List EndId → ℕ → Connection → Finished → Finished → Option MemoryConnection
memory_connection_as hosts agents number connection (Host host) (Agent agent) = Some (record {
  connection = number;
  host_number = number_in hosts connection.start;
  agent_number = number_in agents connection.end;
  host = host;
  agent = agent;
  base = connection.base;
  shares = connection.shares;
})
memory_connection_as hosts agents number connection _ _ = None

abbrev pub memory_connection : SystemTable → ℕ × Connection → Option MemoryConnection
memory_connection system numbered =
    memory_connection_as (hosts_of system) (agents_of system) numbered.0 numbered.1 (known_at system numbered.1.start)
    (known_at system numbered.1.end)

-- the links of hosts to agents, in the order of their connections
abbrev pub memory_connections : SystemTable → List MemoryConnection
memory_connections system = filter_map (memory_connection system) (enumerate_from 0 system.connections)

-- the link is that of the stream of this number
pub record IsStreamConnection (system : SystemTable) (number : ℕ) (link : StreamConnection) : Type 0 where
  pub connection : Connection
  pub place_is : slice_get (streams_of system) number ≡ Some link.connection
  pub connection_is : slice_get system.connections link.connection ≡ Some connection
  pub kind : connection.kind ≡ Stream
  pub start : connection.start ≡ link.source_end
  pub end : connection.end ≡ link.sink_end
  pub fifo : connection.fifo ≡ link.fifo
  pub shallow : link.fifo ≤ 64
  pub source : IsEnd system link.source_end (Source link.source)
  pub sink : IsEnd system link.sink_end (Sink link.sink)
  pub source_proper : IsProper (Source link.source)
  pub sink_proper : IsProper (Sink link.sink)

-- the link is that of its connection
pub record IsMemoryConnection (system : SystemTable) (link : MemoryConnection) : Type 0 where
  pub connection : Connection
  pub connection_is : slice_get system.connections link.connection ≡ Some connection
  pub kind : connection.kind ≡ Mm
  pub host_is : slice_get (hosts_of system) link.host_number ≡ Some connection.start
  pub agent_is : slice_get (agents_of system) link.agent_number ≡ Some connection.end
  pub base : connection.base ≡ link.base
  pub shares : connection.shares ≡ link.shares
  pub some_share : 1 ≤ link.shares
  pub few_shares : link.shares ≤ 63
  pub host : IsEnd system connection.start (Host link.host)
  pub agent : IsEnd system connection.end (Agent link.agent)
  pub host_proper : IsProper (Host link.host)
  pub agent_proper : IsProper (Agent link.agent)

-- the connection of this number has a link among those of hosts to agents
pub record HasMemoryConnection (system : SystemTable) (number : ℕ) : Type 0 where
  pub place : ℕ
  pub link : MemoryConnection
  pub is : slice_get (memory_connections system) place ≡ Some link
  pub connection : link.connection ≡ number

-- the ends keep the rules on a source and a sink, and those on a host and an agent
abbrev pub KeepsStreamRules : SystemTable → StreamConnection → Type 0
KeepsStreamRules system link = (connection : Connection) → slice_get system.connections link.connection ≡ Some connection
    → KeepsAll (stream_tests link.source link.sink connection.clock_fits)

abbrev pub KeepsMmRules : SystemTable → MemoryConnection → Type 0
KeepsMmRules system link = (connection : Connection) → slice_get system.connections link.connection ≡ Some connection
    → KeepsAll (mm_tests link.host link.agent connection.clock_fits)

-- the end is that of a host
pub record IsHostEnd (system : SystemTable) (end : EndId) : Type 0 where
  pub host : HostPort
  pub is : IsEnd system end (Host host)
  pub proper : IsProper (Host host)

-- the end is that of an agent
pub record IsAgentEnd (system : SystemTable) (end : EndId) : Type 0 where
  pub agent : AgentPort
  pub is : IsEnd system end (Agent agent)
  pub proper : IsProper (Agent agent)
