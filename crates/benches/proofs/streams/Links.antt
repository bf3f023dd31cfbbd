-- What holds of the links of a plan's streams.
use Rattle.std.proofs.Common.{◌≡◌, ◌≤◌, ◌*◌, inl, inr, ℕ, List, [], ◌∷◌, ◌++◌, length, map, sym, subst, ap, arith}
use Rattle.std.proofs.lemmas.Bool.{or_parts, ltb-false}
use Rattle.std.proofs.lemmas.List.{length-map}
use Rattle.std.specs.List.{flat_map}
use Rattle.iface_roles.specs.declared.records.Finished.TheVariants.{Source, Sink}
use Rattle.iface_roles.specs.declared.records.StreamPort.{StreamPort}
use Rattle.iface_roles.specs.Proper.{IsProper, IsBoundedStream}
use Rattle.iface_roles.specs.Records.{ready_latency}
use Rattle.system_tables.specs.declared.tables.EndId.{EndId}
use Rattle.system_tables.specs.Tables.{SystemTable}
use Rattle.address_map.specs.Maps.{hosts_of, agents_of}
use Rattle.link_rules.specs.declared.plan_connections.StreamConnection.{StreamConnection}
use Rattle.link_rules.specs.Links.{streams_of}
use Rattle.link_rules.specs.PlanConnections.{stream_connections, IsStreamConnection, KeepsStreamRules}
use Rattle.link_rules.specs.Plans.{PlanTable, IsPlan}
use Rattle.port_tables.specs.EndFacts.{planned}
use Rattle.port_tables.specs.Ends.{IsAnEnd}
use Rattle.port_tables.specs.Lists.{Among, among_at, among_back, among_flat, at_among}
use Rattle.port_tables.specs.Numbering.{ends_at}
use Rattle.port_tables.specs.Ports.{connection_ends, ends_of}
use Rattle.benches.specs.Sound.{IsSoundLink}

-- ---- how many there are

pub few_links : (plan : PlanTable) → IsPlan plan → map (λ (link : StreamConnection). link.connection) (stream_connections plan.system) ≡ streams_of plan.system → length (stream_connections plan.system) ≤ 16
few_links plan is numbers =
    let few = (planned plan is).few_streams in
    let many = length-map (stream_connections plan.system) (λ (link : StreamConnection). link.connection) in
    let all = ap (λ (ns : List ℕ). length ns) numbers in
    omega (arith, few, many, all)

-- ---- their ends

end_among : (system : SystemTable) (number : ℕ) (link : StreamConnection) (end : EndId) (is : IsStreamConnection system number link) → Among end (is.connection.start ∷ is.connection.end ∷ []) → Among end (ends_of system)
end_among system number link end is a =
    among_back (hosts_of system ++ agents_of system) (flat_map (connection_ends system) (streams_of system)) end
    (among_flat (connection_ends system) (streams_of system) link.connection end (among_at (streams_of system) number link.connection is.place_is)
    (subst (λ (ends : List EndId). Among end ends) (sym (ends_at system link.connection is.connection is.connection_is)) a))

pub source_among : (system : SystemTable) (number : ℕ) (link : StreamConnection) → IsStreamConnection system number link → Among link.source_end (ends_of system)
source_among system number link is = end_among system number link link.source_end is (inl is.start)

pub sink_among : (system : SystemTable) (number : ℕ) (link : StreamConnection) → IsStreamConnection system number link → Among link.sink_end (ends_of system)
sink_among system number link is = end_among system number link link.sink_end is (inr (inl is.end))

an_end : (system : SystemTable) (end : EndId) → Among end (ends_of system) → IsAnEnd system end
an_end system end among = let at = at_among (ends_of system) end among in (at.place, at.is)

-- ---- their records

pub sound : (plan : PlanTable) (number : ℕ) (link : StreamConnection) → IsStreamConnection plan.system number link → KeepsStreamRules plan.system link → ((source : StreamPort) → IsProper (Source source) → IsBoundedStream source)
    → ((sink : StreamPort) → IsProper (Sink sink) → IsBoundedStream sink) → IsSoundLink plan.system number link
sound plan number link is keeps sources sinks =
    let rules = keeps is.connection is.connection_is in
    let long = or_parts _ _ (rules 6) in
    let late = or_parts _ _ (or_parts _ _ (rules 7)).0 in
    record {
      is = is;
      source_end = an_end plan.system link.source_end (source_among plan.system number link is);
      sink_end = an_end plan.system link.sink_end (sink_among plan.system number link is);
      sink_of = record { place = link.connection; connection = is.connection; place_is = is.place_is; connection_is = is.connection_is; end_is = is.end };
      source = record { bounded = sources link.source is.source_proper; short = ltb-false 128 (link.source.symbols * link.source.symbol_bits) long.0 };
      sink = record { bounded = sinks link.sink is.sink_proper; short = ltb-false 128 (link.sink.symbols * link.sink.symbol_bits) long.1 };
      soon = ltb-false 8 (ready_latency link.source) late.0;
    }
