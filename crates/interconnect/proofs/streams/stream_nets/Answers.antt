use Rattle.std.proofs.Common.{Option, Result, Ok, Err, sym, subst, ◌∙◌}
use Rattle.std.specs.Result.{IfOk, OnOk}
use Rattle.std.proofs.lemmas.Option.{slice_get_within}
use Rattle.link_rules.specs.Links.{streams_of}
use Rattle.netlist.specs.Nets.{NetValue}
use Rattle.st_timing.specs.Ends.{declared}
use Rattle.st_path.specs.Ends.{ArePathNets}
use Rattle.st_path.specs.Serving.{ServesInLonger}
use Rattle.interconnect.specs.Joins.{AddsStream}
use Rattle.interconnect.proofs.Driving.{is_an_end}
use Rattle.interconnect.proofs.StreamEnds.{source_known, source_among, sink_among}
use Rattle.interconnect.proofs.Forms.{can_join}
use Rattle.interconnect.proofs.WireNets.{wires_are_served}
use Rattle.interconnect.proofs.Inputs.{sink_of, ready_input, ready_if, path_room, path_memory_room, adds_wire}
use Rattle.interconnect.proofs.streams.stream_nets.Goals as goal

pub source_nets-from-requires-clause-end : goal.source_nets-from-requires-clause-end
source_nets-from-requires-clause-end c =
    is_an_end c.args.plan.now.system c.args.link.now.source_end (source_among c.args.plan.now.system c.args.number c.args.link.now c.ports_are_known.ensures.planned c.requires.link)

pub source_nets-from-requires-clause-source : goal.source_nets-from-requires-clause-source
source_nets-from-requires-clause-source c = (c.args.link.now.source, source_known c.args.plan.now.system c.args.number c.args.link.now c.requires.link)

pub input_of-ready-requires-clause-end : goal.input_of-ready-requires-clause-end
input_of-ready-requires-clause-end c =
    is_an_end c.args.plan.now.system c.args.link.now.sink_end (sink_among c.args.plan.now.system c.args.number c.args.link.now c.ports_are_known.ensures.planned c.requires.link)

pub input_of-ready-requires-clause-input : goal.input_of-ready-requires-clause-input
input_of-ready-requires-clause-input c =
    let link = c.args.link.now in
    (1, ready_input c.args.plan.now.system link.sink_end link.sink (sink_of c.args.plan.now.system c.args.number link c.ports_are_known.ensures c.requires.link))

pub path_nets-requires-clause-joined : goal.path_nets-requires-clause-joined
path_nets-requires-clause-joined c =
    let link = c.args.link.now in
    let at = c.requires.link in
    can_join c.args.plan.now.system c.args.number link c.ports_are_known.ensures.planned at
    (c.proper_records_are_bounded.ensures.source link.source at.source_proper) (c.proper_records_are_bounded.ensures.sink link.sink at.sink_proper)

pub path_nets-requires-clause-shallow : goal.path_nets-requires-clause-shallow
path_nets-requires-clause-shallow c = c.requires.link.shallow

pub path_nets-requires-clause-from : goal.path_nets-requires-clause-from
path_nets-requires-clause-from c = c.source_nets-from.ensures.nets c.args.link.now.source (source_known c.args.plan.now.system c.args.number c.args.link.now c.requires.link)

pub path_nets-requires-clause-ready : goal.path_nets-requires-clause-ready
path_nets-requires-clause-ready c =
    let link = c.args.link.now in
    ready_if c.args.plan.now.system link.sink_end link.sink c.args.builder.now c.input_of-ready.result (sink_of c.args.plan.now.system c.args.number link c.ports_are_known.ensures c.requires.link)
    (record { net_is = c.input_of-ready.ensures.net; is = c.input_of-ready.ensures.is })

pub path_nets-requires-clause-room : goal.path_nets-requires-clause-room
path_nets-requires-clause-room c =
    path_room c.args.plan.now c.args.number c.args.builder.now c.ports_are_known.ensures
    (record { connections = c.links_are_connections.ensures c.args.plan.now c.well_made.ensures; agents = c.links_are_few.ensures c.args.plan.now c.well_made.ensures })
    (slice_get_within (streams_of c.args.plan.now.system) c.args.number c.args.link.now.connection c.requires.link.place_is) c.requires.joined

pub path_nets-requires-clause-memory_room : goal.path_nets-requires-clause-memory_room
path_nets-requires-clause-memory_room c =
    path_memory_room c.args.plan.now c.args.number c.args.builder.now c.ports_are_known.ensures
    (record { connections = c.links_are_connections.ensures c.args.plan.now c.well_made.ensures; agents = c.links_are_few.ensures c.args.plan.now c.well_made.ensures })
    (slice_get_within (streams_of c.args.plan.now.system) c.args.number c.args.link.now.connection c.requires.link.place_is) c.requires.joined

-- what holds of a result that is there
ok_four : {T E S U : Type 0} (P Q R : T → Type 0) (r : Result T E) → IfOk r P → IfOk r Q → OnOk r S → OnOk r U → ((t : T) → P t → Q t → S → U → R t) → IfOk r R
ok_four P Q R (Ok t) p q s u f = f t p q s u
ok_four P Q R (Err e) p q s u f = tt

pub returns-in-Some : goal.returns-in-Some
returns-in-Some c =
    let system = c.args.plan.now.system in
    let link = c.args.link.now in
    let at = c.requires.link in
    let known = source_known system c.args.number link at in
    subst (λ (low : Option NetValue). AddsStream system link low c.args.builder.now c.args.builder.now c.wire_nets.result) (sym c.in-Some.is)
    (adds_wire (wires_are_served c.wire_is_served.ensures.served c.wire_is_served.ensures.awake) system c.args.number link c.in-Some.low c.args.builder.now c.source_nets-from.result c.input_of-ready.result c.wire_nets.result
    c.ports_are_known.ensures at (c.proper_records_are_bounded.ensures.source link.source at.source_proper) (c.source_nets-from.ensures.inputs link.source known) (c.source_nets-from.ensures.nets link.source known)
    (record { net_is = c.input_of-ready.ensures.net; is = c.input_of-ready.ensures.is }) (sym c.in-Some.is ∙ c.requires.low link.connection at.place_is) c.requires.joined.lows c.wire_nets.ensures)

pub returns-in-None : goal.returns-in-None
returns-in-None c =
    let system = c.args.plan.now.system in
    let link = c.args.link.now in
    let known = source_known system c.args.number link c.requires.link in
    let here = ready_input system link.sink_end link.sink (sink_of system c.args.number link c.ports_are_known.ensures c.requires.link) in
    ok_four (λ made. ArePathNets c.path_nets.new.builder (declared link.sink) made)
    (λ made. ServesInLonger (declared link.source) (declared link.sink) link.fifo c.source_nets-from.result c.input_of-ready.result made c.path_nets.new.builder)
    (λ made. AddsStream system link c.args.low c.args.builder.now c.path_nets.new.builder made)
    c.path_nets.result c.path_nets.ensures.nets c.path_nets.ensures.serves c.path_nets.ensures.no_more_wait c.path_nets.ensures.no_more_write
    (λ made nets serves waits writes. subst (λ (low : Option NetValue). AddsStream system link low c.args.builder.now c.path_nets.new.builder made) (sym c.in-None.is) (record {
      from = c.source_nets-from.result;
      ready = c.input_of-ready.result;
      from_are = c.source_nets-from.ensures.inputs link.source known;
      ready_is = c.input_of-ready.ensures.net 1 here;
      nets = nets;
      serves = serves;
      grows = c.path_nets.ensures.grows;
      no_more_wait = waits;
      no_more_wait_for_write = writes;
      wire = tt;
    }))
