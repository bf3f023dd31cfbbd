use Rattle.std.proofs.Common.{sym, subst}
use Rattle.interconnect.specs.Outputs.{HaveOwnRoles}
use Rattle.interconnect.proofs.Driving.{is_an_end}
use Rattle.interconnect.proofs.StreamEnds.{source_among, sink_among, link_inside, link_at}
use Rattle.interconnect.proofs.Joining.{source_own, sink_own, source_may_now, sink_may_now, source_over, sink_over, stream_joined}
use Rattle.interconnect.proofs.streams.join_stream.Goals as goal

pub bounds-stream_connections-number : goal.bounds-stream_connections-number
bounds-stream_connections-number c =
    let system = c.args.plan.now.system in
    let kept = c.ports_are_known.ensures.planned.kept in
    link_inside system c.args.number c.stream_connections.result.now (c.streams_are_numbered.ensures.numbers system kept) c.stream_connections.ensures c.requires.inside

pub stream_nets-requires-clause-link : goal.stream_nets-requires-clause-link
stream_nets-requires-clause-link c =
    let system = c.args.plan.now.system in
    link_at system c.args.number c.stream_connections.result.now _ (c.streams_are_numbered.ensures.links system c.ports_are_known.ensures.planned.kept) c.stream_connections.ensures
    (link_inside system c.args.number c.stream_connections.result.now (c.streams_are_numbered.ensures.numbers system c.ports_are_known.ensures.planned.kept) c.stream_connections.ensures c.requires.inside)

pub drive_at-requires-clause-end : goal.drive_at-requires-clause-end
drive_at-requires-clause-end c =
    let system = c.args.plan.now.system in
    let is = link_at system c.args.number c.stream_connections.result.now _ (c.streams_are_numbered.ensures.links system c.ports_are_known.ensures.planned.kept) c.stream_connections.ensures
    (link_inside system c.args.number c.stream_connections.result.now (c.streams_are_numbered.ensures.numbers system c.ports_are_known.ensures.planned.kept) c.stream_connections.ensures c.requires.inside) in
    is_an_end system _ (source_among system c.args.number _ c.ports_are_known.ensures.planned is)

pub drive_at-requires-clause-roles : goal.drive_at-requires-clause-roles
drive_at-requires-clause-roles c = subst HaveOwnRoles (sym c.source_outputs.ensures) (source_own c.in_ok-made.made)

pub drive_at-requires-clause-can : goal.drive_at-requires-clause-can
drive_at-requires-clause-can c =
    let system = c.args.plan.now.system in
    let is = link_at system c.args.number c.stream_connections.result.now _ (c.streams_are_numbered.ensures.links system c.ports_are_known.ensures.planned.kept) c.stream_connections.ensures
    (link_inside system c.args.number c.stream_connections.result.now (c.streams_are_numbered.ensures.numbers system c.ports_are_known.ensures.planned.kept) c.stream_connections.ensures c.requires.inside) in
    source_may_now c.args.plan.now c.args.number _ c.args.builder.now c.stream_nets.new.builder c.args.low c.in_ok-made.made c.ports_are_known.ensures is c.requires.joined c.in_ok-made.ensures _ c.source_outputs.ensures

pub drive_at-requires-2-clause-end : goal.drive_at-requires-2-clause-end
drive_at-requires-2-clause-end c =
    let system = c.args.plan.now.system in
    let is = link_at system c.args.number c.stream_connections.result.now _ (c.streams_are_numbered.ensures.links system c.ports_are_known.ensures.planned.kept) c.stream_connections.ensures
    (link_inside system c.args.number c.stream_connections.result.now (c.streams_are_numbered.ensures.numbers system c.ports_are_known.ensures.planned.kept) c.stream_connections.ensures c.requires.inside) in
    is_an_end system _ (sink_among system c.args.number _ c.ports_are_known.ensures.planned is)

pub drive_at-requires-2-clause-roles : goal.drive_at-requires-2-clause-roles
drive_at-requires-2-clause-roles c = subst HaveOwnRoles (sym c.sink_outputs.ensures) (sink_own c.in_ok-made.made)

pub drive_at-requires-2-clause-can : goal.drive_at-requires-2-clause-can
drive_at-requires-2-clause-can c =
    let system = c.args.plan.now.system in
    let is = link_at system c.args.number c.stream_connections.result.now _ (c.streams_are_numbered.ensures.links system c.ports_are_known.ensures.planned.kept) c.stream_connections.ensures
    (link_inside system c.args.number c.stream_connections.result.now (c.streams_are_numbered.ensures.numbers system c.ports_are_known.ensures.planned.kept) c.stream_connections.ensures c.requires.inside) in
    let over = source_over system c.args.number _ c.in_ok-made.made _ c.stream_nets.new.builder c.drive_at.new.builder is c.source_outputs.ensures c.drive_at.ensures.same c.drive_at.ensures.extends c.drive_at.ensures.driven c.drive_at.ensures.others in
    sink_may_now c.args.plan.now c.args.number _ c.args.builder.now c.stream_nets.new.builder c.drive_at.new.builder c.args.low c.in_ok-made.made c.ports_are_known.ensures is c.requires.joined c.in_ok-made.ensures over _ c.sink_outputs.ensures

pub returns : goal.returns
returns c =
    let system = c.args.plan.now.system in
    let is = link_at system c.args.number c.stream_connections.result.now _ (c.streams_are_numbered.ensures.links system c.ports_are_known.ensures.planned.kept) c.stream_connections.ensures
    (link_inside system c.args.number c.stream_connections.result.now (c.streams_are_numbered.ensures.numbers system c.ports_are_known.ensures.planned.kept) c.stream_connections.ensures c.requires.inside) in
    let over = source_over system c.args.number _ c.in_ok-made.made _ c.stream_nets.new.builder c.drive_at.new.builder is c.source_outputs.ensures c.drive_at.ensures.same c.drive_at.ensures.extends c.drive_at.ensures.driven c.drive_at.ensures.others in
    let done = sink_over system c.args.number _ c.in_ok-made.made _ c.drive_at.new.builder c.drive_at-2.new.builder is c.sink_outputs.ensures c.drive_at-2.ensures.same c.drive_at-2.ensures.extends c.drive_at-2.ensures.driven c.drive_at-2.ensures.others in
    stream_joined c.keeps.ensures.chain c.args.plan.now c.args.number _ c.args.builder.now c.stream_nets.new.builder c.drive_at.new.builder c.drive_at-2.new.builder c.args.low c.in_ok-made.made c.ports_are_known.ensures is c.in_ok-made.ensures
    (c.requires.low _ is.place_is) over done c.requires.joined
