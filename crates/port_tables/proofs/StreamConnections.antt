-- The streams of a plan, link by link.
use Rattle.std.proofs.Common.{◌≡◌, ◌≤◌, ◌<◌, ℕ, ◌+◌, List, [], ◌∷◌, ◌++◌, append_assoc, length, map, take, get_or, slice_get, Some, sym, ap, subst, ◌∙◌, arith}
use Rattle.std.specs.List.{flat_map}
use Rattle.std.proofs.lemmas.List.{length-map}
use Rattle.std.proofs.lemmas.Option.{slice_get-get_or}
use Rattle.system_tables.specs.declared.tables.EndId.{EndId}
use Rattle.system_tables.specs.Tables.{SystemTable}
use Rattle.link_rules.specs.declared.plan_connections.StreamConnection.{StreamConnection}
use Rattle.link_rules.specs.PlanConnections.{stream_connections, IsStreamConnection}
use Rattle.link_rules.specs.Links.{streams_of}
use Rattle.port_tables.specs.declared.port_table.PortEntry.{PortEntry}
use Rattle.port_tables.specs.PortMaps.{end_entries}
use Rattle.port_tables.specs.Lists.{flat_one_more}
use Rattle.port_tables.specs.Ports.{connection_ends}
use Rattle.port_tables.specs.Ends.{ArePlanEnds}
use Rattle.port_tables.specs.EndFacts.{IsPlanned}
use Rattle.port_tables.specs.Numbering.{IsStreamOf, link_stream, are_ends, ends_at}

-- the stream of the link that stands at a number
pub stream_of_link : (system : SystemTable) (number : ℕ) (links : List StreamConnection) (d : StreamConnection) → IsPlanned system
    → ((number : ℕ) (link : StreamConnection) → slice_get (stream_connections system) number ≡ Some link → IsStreamConnection system number link)
    → links ≡ stream_connections system → number < length links → IsStreamOf system number (get_or links number d)
stream_of_link system number links d h law same inside =
    link_stream system number (get_or links number d) h
    (law number (get_or links number d) (subst (λ (ls : List StreamConnection). slice_get ls number ≡ Some (get_or links number d)) same (slice_get-get_or links number d inside)))

-- the ends of its connection are the link's
pub link_ends : (system : SystemTable) (number : ℕ) (link : StreamConnection) (at : IsStreamOf system number link) → connection_ends system at.place.place ≡ link.source_end ∷ link.sink_end ∷ []
link_ends system number link at =
    ends_at system at.place.place at.connection at.place.connection_is
    ∙ ap (λ (end : EndId). end ∷ at.connection.end ∷ []) at.start ∙ ap (λ (end : EndId). link.source_end ∷ end ∷ []) at.end

pub are_link_ends : (system : SystemTable) (number : ℕ) (link : StreamConnection) → IsStreamOf system number link → ArePlanEnds system (link.source_end ∷ link.sink_end ∷ [])
are_link_ends system number link at =
    subst (λ (end : EndId). ArePlanEnds system (link.source_end ∷ end ∷ [])) at.end
    (subst (λ (end : EndId). ArePlanEnds system (end ∷ at.connection.end ∷ [])) at.start (are_ends system number at.connection at.place))

-- behind the last link all streams have had their turn
pub all_streams : (streams : List ℕ) (links items : List StreamConnection) (index : ℕ) → map (λ (link : StreamConnection). link.connection) links ≡ streams → items ≡ links → length items ≤ index → length streams ≤ index
all_streams streams links items index numbers same past =
    let many = length-map links (λ (link : StreamConnection). link.connection) in
    let all = ap (λ (ns : List ℕ). length ns) numbers in
    let long = ap (λ (ls : List StreamConnection). length ls) same in
    omega (arith, many, all, long, past)

pub one_stream_more : (streams : List ℕ) (links items : List StreamConnection) (index : ℕ) → map (λ (link : StreamConnection). link.connection) links ≡ streams → items ≡ links → index < length items → index < length streams
one_stream_more streams links items index numbers same inside =
    let many = length-map links (λ (link : StreamConnection). link.connection) in
    let all = ap (λ (ns : List ℕ). length ns) numbers in
    let long = ap (λ (ls : List StreamConnection). length ls) same in
    omega (arith, many, all, long, inside)

-- the ports of the ends of one stream more
pub ends_more : (system : SystemTable) (number : ℕ) (link : StreamConnection) → IsStreamOf system number link → (first before now : List PortEntry)
    → before ≡ first ++ flat_map (end_entries system) (flat_map (connection_ends system) (take number (streams_of system)))
    → now ≡ before ++ flat_map (end_entries system) (link.source_end ∷ link.sink_end ∷ [])
    → now ≡ first ++ flat_map (end_entries system) (flat_map (connection_ends system) (take (number + 1) (streams_of system)))
ends_more system number link at first before now earlier pushed =
    let old = flat_map (end_entries system) (flat_map (connection_ends system) (take number (streams_of system))) in
    let more = flat_one_more (end_entries system) (connection_ends system) (streams_of system) number at.place.place at.place.place_is in
    pushed
    ∙ ap (λ (ports : List PortEntry). ports ++ flat_map (end_entries system) (link.source_end ∷ link.sink_end ∷ [])) earlier
    ∙ append_assoc first old (flat_map (end_entries system) (link.source_end ∷ link.sink_end ∷ []))
    ∙ ap (λ (ports : List PortEntry). first ++ ports) (ap (λ (ends : List EndId). old ++ flat_map (end_entries system) ends) (sym (link_ends system number link at)) ∙ sym more)
