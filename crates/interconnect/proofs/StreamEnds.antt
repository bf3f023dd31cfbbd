-- The ends of a stream are ends of the system.
use Rattle.std.proofs.Common.{◌≡◌, inl, inr, ◌<◌, List, [], ◌∷◌, ◌++◌, ℕ, Some, length, map, get_or, slice_get, sym, ap, subst, refl, ◌∙◌, arith}
use Rattle.std.proofs.lemmas.List.{length-map}
use Rattle.std.proofs.lemmas.Option.{slice_get-get_or, slice_get_within}
use Rattle.std.specs.List.{flat_map}
use Rattle.iface_roles.specs.declared.records.Finished.TheVariants.{Source, Sink}
use Rattle.iface_roles.specs.declared.records.StreamPort.{StreamPort}
use Rattle.system_tables.specs.declared.tables.EndId.{EndId}
use Rattle.system_tables.specs.declared.tables.Connection.{Connection}
use Rattle.system_tables.specs.Tables.{SystemTable}
use Rattle.address_map.specs.Footprints.{known_at}
use Rattle.address_map.specs.Maps.{hosts_of, agents_of}
use Rattle.link_rules.specs.declared.plan_connections.StreamConnection.{StreamConnection}
use Rattle.link_rules.specs.Links.{streams_of}
use Rattle.link_rules.specs.PlanConnections.{stream_connections, IsStreamConnection}
use Rattle.port_tables.specs.Lists.{Among, among_at, among_back, among_flat}
use Rattle.port_tables.specs.Ends.{IsStreamPlace}
use Rattle.port_tables.specs.EndFacts.{IsPlanned, known_is}
use Rattle.port_tables.specs.Numbering.{ends_at, stream_at}
use Rattle.port_tables.specs.Ports.{connection_ends, ends_of}
use Rattle.interconnect.specs.Streams.{IsStream}

end_among : (system : SystemTable) (number : ℕ) (connection : Connection) (end : EndId) (at : IsStreamPlace system number connection) → Among end (connection.start ∷ connection.end ∷ []) → Among end (ends_of system)
end_among system number connection end at a =
    among_back (hosts_of system ++ agents_of system) (flat_map (connection_ends system) (streams_of system)) end
    (among_flat (connection_ends system) (streams_of system) at.place end (among_at (streams_of system) number at.place at.place_is)
    (subst (λ (ends : List EndId). Among end ends) (sym (ends_at system at.place connection at.connection_is)) a))

pub start_among : (system : SystemTable) (number : ℕ) (connection : Connection) → IsStreamPlace system number connection → Among connection.start (ends_of system)
start_among system number connection at = end_among system number connection connection.start at (inl refl)

pub finish_among : (system : SystemTable) (number : ℕ) (connection : Connection) → IsStreamPlace system number connection → Among connection.end (ends_of system)
finish_among system number connection at = end_among system number connection connection.end at (inr (inl refl))

pub stream_ends_among : (system : SystemTable) (number : ℕ) (connection : Connection) (source : StreamPort) (sink : StreamPort) → IsStream system number connection source sink → Among connection.start (ends_of system) × Among connection.end (ends_of system)
stream_ends_among system number connection source sink is = (there connection.start (inl refl), there connection.end (inr (inl refl)))
  where
    there : (end : EndId) → Among end (connection.start ∷ connection.end ∷ []) → Among end (ends_of system)
    there end a =
        among_back (hosts_of system ++ agents_of system) (flat_map (connection_ends system) (streams_of system)) end
        (among_flat (connection_ends system) (streams_of system) is.place end (among_at (streams_of system) number is.place is.place_is)
        (subst (λ (ends : List EndId). Among end ends) (sym (ends_at system is.place connection is.connection_is)) a))

-- ---- the ends of a link

pub source_known : (system : SystemTable) (number : ℕ) (link : StreamConnection) → IsStreamConnection system number link → known_at system link.source_end ≡ Source link.source
source_known system number link is = known_is system link.source_end (Source link.source) is.source

pub sink_known : (system : SystemTable) (number : ℕ) (link : StreamConnection) → IsStreamConnection system number link → known_at system link.sink_end ≡ Sink link.sink
sink_known system number link is = known_is system link.sink_end (Sink link.sink) is.sink

-- the connection has the ends and the queue of the link
pub record IsConnectionOf (link : StreamConnection) (connection : Connection) : Type 0 where
  pub start : connection.start ≡ link.source_end
  pub end : connection.end ≡ link.sink_end
  pub fifo : connection.fifo ≡ link.fifo

pub connection_of : (system : SystemTable) (number : ℕ) (link : StreamConnection) (connection : Connection) → IsStreamConnection system number link → slice_get system.connections link.connection ≡ Some connection
    → IsConnectionOf link connection
connection_of system number link connection is e =
    let f = is.connection_is in
    let same : is.connection ≡ connection = cc in
    subst (IsConnectionOf link) same (record { start = is.start; end = is.end; fifo = is.fifo })

pub start_known : (system : SystemTable) (number : ℕ) (link : StreamConnection) (connection : Connection) → IsStreamConnection system number link → IsConnectionOf link connection → known_at system connection.start ≡ Source link.source
start_known system number link connection is of = ap (λ (end : EndId). known_at system end) of.start ∙ source_known system number link is

pub finish_known : (system : SystemTable) (number : ℕ) (link : StreamConnection) (connection : Connection) → IsStreamConnection system number link → IsConnectionOf link connection → known_at system connection.end ≡ Sink link.sink
finish_known system number link connection is of = ap (λ (end : EndId). known_at system end) of.end ∙ sink_known system number link is

unfoldable pub link_place : (system : SystemTable) (number : ℕ) (link : StreamConnection) (connection : Connection) → IsPlanned system → IsStreamConnection system number link → slice_get system.connections link.connection ≡ Some connection
    → IsStreamPlace system number connection
link_place system number link connection h is e =
    let of = connection_of system number link connection is e in
    let f = is.connection_is in
    let same : is.connection ≡ connection = cc in
    let at = stream_at system link.connection connection h e (ap (λ (c : Connection). c.kind) (sym same) ∙ is.kind) in
    record {
      place = link.connection;
      place_is = is.place_is;
      connection_is = e;
      source = at.source;
      sink = at.sink;
      source_port = link.source;
      sink_port = link.sink;
      source_is = start_known system number link connection is of;
      sink_is = finish_known system number link connection is of;
    }

pub source_among : (system : SystemTable) (number : ℕ) (link : StreamConnection) → IsPlanned system → IsStreamConnection system number link → Among link.source_end (ends_of system)
source_among system number link h is =
    subst (λ (end : EndId). Among end (ends_of system)) is.start (start_among system number is.connection (link_place system number link is.connection h is is.connection_is))

pub sink_among : (system : SystemTable) (number : ℕ) (link : StreamConnection) → IsPlanned system → IsStreamConnection system number link → Among link.sink_end (ends_of system)
sink_among system number link h is =
    subst (λ (end : EndId). Among end (ends_of system)) is.end (finish_among system number is.connection (link_place system number link is.connection h is is.connection_is))

-- ---- links by their numbers

pub link_inside : (system : SystemTable) (number : ℕ) (links : List StreamConnection) → map (λ (link : StreamConnection). link.connection) (stream_connections system) ≡ streams_of system → links ≡ stream_connections system
    → number < length (streams_of system) → number < length links
link_inside system number links numbers same inside =
    let many = length-map (stream_connections system) (λ (link : StreamConnection). link.connection) in
    let all = ap (λ (ns : List ℕ). length ns) numbers in
    let long = ap (λ (ls : List StreamConnection). length ls) same in
    omega (arith, many, all, long, inside)

link_there : (system : SystemTable) (number : ℕ) (links : List StreamConnection) (d : StreamConnection) → links ≡ stream_connections system → number < length links
    → slice_get (stream_connections system) number ≡ Some (get_or links number d)
link_there system number links d same inside = subst (λ (ls : List StreamConnection). slice_get ls number ≡ Some (get_or links number d)) same (slice_get-get_or links number d inside)

pub connection_inside : (system : SystemTable) (number : ℕ) (link : StreamConnection) (connections : List Connection) → IsStreamConnection system number link → connections ≡ system.connections → link.connection < length connections
connection_inside system number link connections is same =
    let within = slice_get_within system.connections link.connection is.connection is.connection_is in
    let long = ap (λ (cs : List Connection). length cs) same in
    omega (arith, within, long)

pub connection_there : (system : SystemTable) (number : ℕ) (link : StreamConnection) (connections : List Connection) (d : Connection) → IsStreamConnection system number link → connections ≡ system.connections
    → slice_get system.connections link.connection ≡ Some (get_or connections link.connection d)
connection_there system number link connections d is same =
    subst (λ (cs : List Connection). slice_get cs link.connection ≡ Some (get_or connections link.connection d)) same
    (slice_get-get_or connections link.connection d (connection_inside system number link connections is same))

-- the link that stands at a number
pub link_at : (system : SystemTable) (number : ℕ) (links : List StreamConnection) (d : StreamConnection)
    → ((number : ℕ) (link : StreamConnection) → slice_get (stream_connections system) number ≡ Some link → IsStreamConnection system number link)
    → links ≡ stream_connections system → number < length links → IsStreamConnection system number (get_or links number d)
link_at system number links d law same inside = law number (get_or links number d) (link_there system number links d same inside)
