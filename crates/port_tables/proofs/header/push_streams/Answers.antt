use Rattle.std.proofs.Common.{◌++◌, ℕ, List, ap, ◌∙◌, arith}
use Rattle.std.proofs.lemmas.List.{take_all}
use Rattle.std.specs.List.{flat_map}
use Rattle.link_rules.specs.Links.{streams_of}
use Rattle.link_rules.specs.PlanConnections.{stream_connections}
use Rattle.port_tables.specs.EndFacts.{planned}
use Rattle.port_tables.specs.Ports.{connection_ends}
use Rattle.port_tables.specs.PortMaps.{end_entries}
use Rattle.port_tables.proofs.StreamConnections.{stream_of_link, ends_more, are_link_ends, all_streams}
use Rattle.port_tables.proofs.header.push_streams.Goals as goal

pub push_ends-requires : goal.push_ends-requires
push_ends-requires c =
    let system = c.args.plan.now.system in
    let h = planned c.args.plan.now c.well_made.ensures in
    are_link_ends system c.loop-link.link-index _ (stream_of_link system c.loop-link.link-index c.stream_connections-link-items.result.now _ h (c.streams_are_numbered.ensures.links system h.kept) c.stream_connections-link-items.ensures c.loop-link-test.true)

pub loop-link-preserved : goal.loop-link-preserved
loop-link-preserved c =
    let system = c.args.plan.now.system in
    let h = planned c.args.plan.now c.well_made.ensures in
    let number = c.loop-link.link-index in
    ends_more system number _
    (stream_of_link system number c.stream_connections-link-items.result.now _ h (c.streams_are_numbered.ensures.links system h.kept) c.stream_connections-link-items.ensures c.loop-link-test.true)
    c.args.entries.now c.loop-link.entries c.push_ends.new.entries c.loop-link.invariant c.in_ok-push_ends.ensures

pub returns : goal.returns
returns c =
    let system = c.args.plan.now.system in
    let h = planned c.args.plan.now c.well_made.ensures in
    let all = all_streams (streams_of system) (stream_connections system) c.stream_connections-link-items.result.now c.loop-link.link-index (c.streams_are_numbered.ensures.numbers system h.kept) c.stream_connections-link-items.ensures (omega (arith, c.loop-link-test.false)) in
    c.loop-link.invariant ∙ ap (λ (numbers : List ℕ). c.args.entries.now ++ flat_map (end_entries system) (flat_map (connection_ends system) numbers)) (take_all c.loop-link.link-index (streams_of system) all)
