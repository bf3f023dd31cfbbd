use Rattle.std.proofs.Common.{◌≡◌, ℕ, [], ◌∷◌, ◌++◌, length, ap, sym, subst, ◌∙◌, arith}
use Rattle.link_rules.specs.Links.{streams_of}
use Rattle.link_rules.specs.PlanConnections.{stream_connections}
use Rattle.port_tables.specs.EndFacts.{planned}
use Rattle.port_tables.specs.PortMaps.{AreSinks}
use Rattle.port_tables.proofs.PortPlaces.{sinks_more}
use Rattle.port_tables.proofs.StreamConnections.{stream_of_link, all_streams, one_stream_more}
use Rattle.port_tables.proofs.header.sinks.Goals as goal

pub loop-link-preserved : goal.loop-link-preserved
loop-link-preserved c =
    let system = c.args.plan.now.system in
    let h = planned c.args.plan.now c.well_made.ensures in
    let number = c.loop-link.link-index in
    let items = c.stream_connections-link-items.result.now in
    let at = stream_of_link system number items _ h (c.streams_are_numbered.ensures.links system h.kept) c.stream_connections-link-items.ensures c.loop-link-test.true in
    let below = one_stream_more (streams_of system) (stream_connections system) items number (c.streams_are_numbered.ensures.numbers system h.kept) c.stream_connections-link-items.ensures c.loop-link-test.true in (
      sinks_more system number c.loop-link.sinks c.push.new.self at.connection c.loop-link.invariant.0 at.place (c.in_ok-push.ensures.ok ∙ ap (λ end. c.loop-link.sinks ++ end ∷ []) (sym at.end)),
      omega (arith, below),
    )

pub returns : goal.returns
returns c =
    let system = c.args.plan.now.system in
    let h = planned c.args.plan.now c.well_made.ensures in
    let all = all_streams (streams_of system) (stream_connections system) c.stream_connections-link-items.result.now c.loop-link.link-index (c.streams_are_numbered.ensures.numbers system h.kept) c.stream_connections-link-items.ensures (omega (arith, c.loop-link-test.false)) in
    let inside = c.loop-link.invariant.1 in
    let last : c.loop-link.link-index ≡ length (streams_of system) = omega (arith, all, inside) in
    subst (λ (n : ℕ). AreSinks system n c.loop-link.sinks) last c.loop-link.invariant.0
