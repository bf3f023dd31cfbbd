-- The interfaces that statements name.
use Rattle.std.specs.Prelude.{ℕ, List, Option, Some, None, option_and_then, position, slice_get}
use Rattle.std.specs.Str.{bytes_eq}
use Rattle.iface_roles.specs.declared.kinds.Side.{Side}
use Rattle.iface_roles.specs.declared.kinds.Side.TheVariants.{Start, End}
use Rattle.iface_roles.specs.declared.records.HostPort.{HostPort}
use Rattle.iface_roles.specs.declared.records.AgentPort.{AgentPort}
use Rattle.iface_roles.specs.declared.records.StreamPort.{StreamPort}
use Rattle.iface_roles.specs.declared.records.Finished.{Finished}
use Rattle.iface_roles.specs.declared.records.Finished.TheVariants.{Host, Agent}
use Rattle.system_tables.specs.declared.tables.EndId.{EndId}
use Rattle.system_tables.specs.Tables.{SystemTable}
use Rattle.address_map.specs.Footprints.{known_at}
use Rattle.address_map.specs.Maps.{hosts_of, agents_of}
use Rattle.link_rules.specs.declared.plan_connections.StreamConnection.{StreamConnection}
use Rattle.link_rules.specs.PlanConnections.{stream_connections}
use Rattle.map_text.specs.Text.{end_name}
use Rattle.scenarios.specs.declared.interfaces.Named.{Named}

-- the place of the first end whose name, INSTANCE.INTERFACE, is the word
abbrev pub place_of : SystemTable → List EndId → List ℕ → Option ℕ
place_of system ends word = position (λ end. bytes_eq (end_name system end) word) ends

-- with a number
abbrev pub numbered : {P : Type 0} → ℕ → Option P → Option (Named P)
numbered {P} number None = None
numbered {P} number (Some port) = Some (record { number = number; port = port })

abbrev pub host_in : Finished → Option HostPort
host_in (Host port) = Some port
host_in _ = None

abbrev pub as_host : ℕ → Finished → Option (Named HostPort)
as_host number known = numbered number (host_in known)

abbrev pub host_at : SystemTable → ℕ → Option (Named HostPort)
host_at system number = option_and_then (λ end. as_host number (known_at system end)) (slice_get (hosts_of system) number)

-- the host that a word names, with its number
unfoldable pub host_named : SystemTable → List ℕ → Option (Named HostPort)
host_named system word = option_and_then (host_at system) (place_of system (hosts_of system) word)

abbrev pub agent_in : Finished → Option AgentPort
agent_in (Agent port) = Some port
agent_in _ = None

abbrev pub as_agent : ℕ → Finished → Option (Named AgentPort)
as_agent number known = numbered number (agent_in known)

abbrev pub agent_at : SystemTable → ℕ → Option (Named AgentPort)
agent_at system number = option_and_then (λ end. as_agent number (known_at system end)) (slice_get (agents_of system) number)

-- the agent that a word names, with its number
unfoldable pub agent_named : SystemTable → List ℕ → Option (Named AgentPort)
agent_named system word = option_and_then (agent_at system) (place_of system (agents_of system) word)

-- the end of a stream on a side, and the record there
abbrev pub stream_end : Side → StreamConnection → EndId
stream_end Start link = link.source_end
stream_end End link = link.sink_end

abbrev pub stream_port : Side → StreamConnection → StreamPort
stream_port Start link = link.source
stream_port End link = link.sink

abbrev pub stream_at : SystemTable → Side → ℕ → Option (Named StreamPort)
stream_at system side number =
    option_and_then (λ link. numbered number (Some (stream_port side link))) (slice_get (stream_connections system) number)

-- the source, or the sink, that a word names, with the number of its stream
unfoldable pub stream_named : SystemTable → Side → List ℕ → Option (Named StreamPort)
stream_named system side word =
    option_and_then (stream_at system side)
    (position (λ (link : StreamConnection). bytes_eq (end_name system (stream_end side link)) word) (stream_connections system))
