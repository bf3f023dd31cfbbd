-- The records of the interfaces of a plan.
use Rattle.std.proofs.Common.{◌≡◌, ℕ, ◌<◌, List, length, slice_get, get_or, Some, sym, ap, ◌∙◌}
use Rattle.std.specs.Prelude.{option_and_then}
use Rattle.std.proofs.lemmas.Option.{slice_get-get_or}
use Rattle.iface_roles.specs.declared.kinds.Side.{Side}
use Rattle.iface_roles.specs.declared.kinds.Side.TheVariants.{Start, End}
use Rattle.iface_roles.specs.declared.records.HostPort.{HostPort}
use Rattle.iface_roles.specs.declared.records.AgentPort.{AgentPort}
use Rattle.iface_roles.specs.declared.records.Finished.{Finished}
use Rattle.iface_roles.specs.declared.records.Finished.TheVariants.{Source, Sink}
use Rattle.iface_roles.specs.Proper.{IsBoundedStream}
use Rattle.system_tables.specs.declared.tables.EndId.{EndId}
use Rattle.system_tables.specs.Tables.{SystemTable, IsEnd}
use Rattle.address_map.specs.Footprints.{known_at}
use Rattle.address_map.specs.Maps.{hosts_of, agents_of}
use Rattle.link_rules.specs.declared.plan_connections.StreamConnection.{StreamConnection}
use Rattle.link_rules.specs.PlanConnections.{stream_connections, IsStreamConnection}
use Rattle.link_rules.specs.Plans.{IsHostAt, IsAgentAt}
use Rattle.scenarios.specs.Interfaces.{place_of, as_host, host_at, host_named, as_agent, agent_at, agent_named, stream_end, stream_port}

pub a_host : (system : SystemTable) (ends : List EndId) (word : List ℕ) (number : ℕ) (port : HostPort) → ends ≡ hosts_of system → place_of system ends word ≡ Some number → IsHostAt system number port
    → host_named system word ≡ Some (record { number = number; port = port })
unfolding host_named
a_host system ends word number port are place at =
    ap (λ (es : List EndId). option_and_then (host_at system) (place_of system es word)) (sym are) ∙ ap (option_and_then (host_at system)) place
    ∙ ap (option_and_then (λ (end : EndId). as_host number (known_at system end))) at.end_is
    ∙ ap (as_host number) at.is

pub an_agent : (system : SystemTable) (ends : List EndId) (word : List ℕ) (number : ℕ) (port : AgentPort) → ends ≡ agents_of system → place_of system ends word ≡ Some number → IsAgentAt system number port
    → agent_named system word ≡ Some (record { number = number; port = port })
unfolding agent_named
an_agent system ends word number port are place at =
    ap (λ (es : List EndId). option_and_then (agent_at system) (place_of system es word)) (sym are) ∙ ap (option_and_then (agent_at system)) place
    ∙ ap (option_and_then (λ (end : EndId). as_agent number (known_at system end))) at.end_is
    ∙ ap (as_agent number) at.is

-- each link of a plan is that of its stream
pub record AreLinks (system : SystemTable) (links : List StreamConnection) : Type 0 where
  pub are : links ≡ stream_connections system
  pub each : (number : ℕ) (link : StreamConnection) → slice_get (stream_connections system) number ≡ Some link → IsStreamConnection system number link

link_there : (system : SystemTable) (links : List StreamConnection) (k : ℕ) (d : StreamConnection) → AreLinks system links → k < length links → IsStreamConnection system k (get_or links k d)
link_there system links k d h less = h.each k (get_or links k d) (ap (λ ls. slice_get ls k) (sym h.are) ∙ slice_get-get_or links k d less)

known_on : (system : SystemTable) (side : Side) (number : ℕ) (link : StreamConnection) → IsStreamConnection system number link → (known : Finished) × IsEnd system (stream_end side link) known
known_on system Start number link h = (Source link.source, h.source)
known_on system End number link h = (Sink link.sink, h.sink)

pub stream_known : (system : SystemTable) (side : Side) (links : List StreamConnection) (k : ℕ) (d : StreamConnection) → AreLinks system links → k < length links → (known : Finished) × IsEnd system (stream_end side (get_or links k d)) known
stream_known system side links k d h less = known_on system side k (get_or links k d) (link_there system links k d h less)

pub bounded_on : (side : Side) (link : StreamConnection) → IsBoundedStream link.source → IsBoundedStream link.sink → IsBoundedStream (stream_port side link)
bounded_on Start link source sink = source
bounded_on End link source sink = sink
