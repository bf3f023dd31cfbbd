use Rattle.std.proofs.Common.{◌≡◌, ◌≤◌, ℕ, List, length, map, arith, ap, subst, ◌∙◌}
use Rattle.std.proofs.lemmas.List.{length-map}
use Rattle.link_rules.specs.declared.plan_connections.StreamConnection.{StreamConnection}
use Rattle.link_rules.specs.Links.{streams_of}
use Rattle.link_rules.specs.PlanConnections.{stream_connections}
use Rattle.port_tables.specs.Wires.{wires_before}
use Rattle.interconnect.specs.Joins.{with_lows, AreLows}
use Rattle.interconnect.proofs.StreamEnds.{link_at}
use Rattle.interconnect.proofs.LowNets.{low_room, low_more}
use Rattle.interconnect.proofs.streams.low_nets.Goals as goal

pub low_net-requires : goal.low_net-requires
low_net-requires c =
    low_room c.args.plan.now.system c.loop-link.link-index c.args.builder.now c.loop-link.builder c.loop-link.lows c.ports_are_known.ensures c.requires c.loop-link.invariant

pub loop-link-preserved : goal.loop-link-preserved
loop-link-preserved c =
    let system = c.args.plan.now.system in
    low_more system c.loop-link.link-index _ c.args.builder.now c.loop-link.builder c.low_net.new.builder c.loop-link.lows c.push.new.self c.in_ok-low.low c.requires
    (link_at system c.loop-link.link-index c.stream_connections-link-items.result.now _ (c.streams_are_numbered.ensures.links system c.ports_are_known.ensures.planned.kept) c.stream_connections-link-items.ensures c.loop-link-test.true)
    c.loop-link.invariant c.in_ok-low.ensures c.in_ok-push.ensures.ok

-- all streams have had their turn
all_streams : (streams : List ℕ) (links items : List StreamConnection) (index : ℕ) → map (λ (link : StreamConnection). link.connection) links ≡ streams → items ≡ links → length items ≤ index → index ≤ length streams → index ≡ length streams
all_streams streams links items index numbers same past inside =
    let many = length-map links (λ (link : StreamConnection). link.connection) in
    let all = ap (λ (ns : List ℕ). length ns) numbers in
    let long = ap (λ (ls : List StreamConnection). length ls) same in
    omega (arith, many, all, long, past, inside)

pub returns-clause-lows : goal.returns-clause-lows
returns-clause-lows c =
    let system = c.args.plan.now.system in
    let last = all_streams (streams_of system) (stream_connections system) c.stream_connections-link-items.result.now c.loop-link.link-index (c.streams_are_numbered.ensures.numbers system c.ports_are_known.ensures.planned.kept)
    c.stream_connections-link-items.ensures (omega (arith, c.loop-link-test.false)) c.loop-link.invariant.inside in
    subst (λ (n : ℕ). AreLows system n c.loop-link.lows) last c.loop-link.invariant.lows

pub returns-clause-lines : goal.returns-clause-lines
returns-clause-lines c =
    let system = c.args.plan.now.system in
    let last = all_streams (streams_of system) (stream_connections system) c.stream_connections-link-items.result.now c.loop-link.link-index (c.streams_are_numbered.ensures.numbers system c.ports_are_known.ensures.planned.kept)
    c.stream_connections-link-items.ensures (omega (arith, c.loop-link-test.false)) c.loop-link.invariant.inside in
    c.loop-link.invariant.lines ∙ ap (λ (n : ℕ). with_lows c.args.builder.now (wires_before system n)) last
