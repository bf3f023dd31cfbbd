use Rattle.std.proofs.Common.{subst}
use Rattle.netlist.specs.Netlists.{Netlist}
use Rattle.settled_netlists.specs.Settled.{IsSettled}
use Rattle.interconnect.proofs.LowNets.{begins}
use Rattle.interconnect.proofs.Modules.{IsWhole, all_driven, interconnect_is, interconnect_pruned, interconnect_settled}
use Rattle.interconnect.proofs.whole.build.Goals as goal

pub join_memory-requires-clause-begun : goal.join_memory-requires-clause-begun
join_memory-requires-clause-begun c =
    begins c.args.plan.now.system c.in_ok-builder.builder c.low_nets.new.builder c.in_ok-builder.ensures.started c.in_ok-lows.ensures.lines c.in_ok-lows.ensures.no_more_wait c.in_ok-builder.ensures.clocked c.in_ok-builder.ensures.written
    c.in_ok-builder.ensures.undriven

pub finish-whole-requires-clause-driven : goal.finish-whole-requires-clause-driven
finish-whole-requires-clause-driven c =
    let plan = c.args.plan.now in
    let is_plan = c.well_made.ensures in
    let whole : IsWhole plan c.join_streams.new.builder = record {
      known = c.ports_are_known.ensures;
      bounded = c.proper_records_are_bounded.ensures.sink;
      laws = record {
        is_plan = is_plan;
        numbered = c.memory_connections_are_numbered.ensures.links plan.system is_plan.system;
        each = c.memory_connections_are_numbered.ensures.each plan.system is_plan.system;
        one = λ side. c.ends_have_one_number.ensures.one plan.system side;
        joined = λ side. c.ends_are_joined.ensures plan.system side;
      };
      upto = c.in_ok-join_streams.ensures;
      well_made = c.well_made-2.ensures;
      few_links = record { connections = c.links_are_connections.ensures plan is_plan; agents = c.links_are_few.ensures plan is_plan };
    } in
    all_driven plan c.join_streams.new.builder whole

pub without_constant_bits-requires-clause-whole : goal.without_constant_bits-requires-clause-whole
without_constant_bits-requires-clause-whole c =
    let plan = c.args.plan.now in
    let is_plan = c.well_made.ensures in
    let whole : IsWhole plan c.join_streams.new.builder = record {
      known = c.ports_are_known.ensures;
      bounded = c.proper_records_are_bounded.ensures.sink;
      laws = record {
        is_plan = is_plan;
        numbered = c.memory_connections_are_numbered.ensures.links plan.system is_plan.system;
        each = c.memory_connections_are_numbered.ensures.each plan.system is_plan.system;
        one = λ side. c.ends_have_one_number.ensures.one plan.system side;
        joined = λ side. c.ends_are_joined.ensures plan.system side;
      };
      upto = c.in_ok-join_streams.ensures;
      well_made = c.well_made-2.ensures;
      few_links = record { connections = c.links_are_connections.ensures plan is_plan; agents = c.links_are_few.ensures plan is_plan };
    } in
    let settled : IsSettled c.join_streams.new.builder c.in_ok-settled.settled = subst (λ (b : Netlist). IsSettled b c.in_ok-settled.settled) c.finish-whole.ensures.same c.in_ok-settled.ensures in
    interconnect_settled plan c.join_streams.new.builder c.in_ok-settled.settled settled
    (interconnect_is plan c.join_streams.new.builder (record {
      kept = c.plans_are_memory_plans.ensures.kept plan is_plan;
      safe = c.fabrics_are_served.ensures.safe plan is_plan;
      awake = c.fabrics_are_served.ensures.awake plan is_plan;
      moves = c.fabrics_are_served.ensures.moves plan is_plan;
      accepts = c.fabrics_are_served.ensures.accepts plan is_plan;
      fair = c.fabrics_are_served.ensures.fair plan is_plan;
      packed = c.fabrics_are_served.ensures.packed plan is_plan;
      ignores = c.fabrics_ignore_words.ensures plan is_plan;
    }) (record {
      turned = c.same_beginnings.ensures.turned;
      legal = c.same_beginnings.ensures.legal;
      safe = c.same_beginnings.ensures.safe;
      awake = c.same_beginnings.ensures.awake;
      onward = c.same_beginnings.ensures.onward;
      accepts = c.same_beginnings.ensures.accepts;
      fair = c.same_beginnings.ensures.fair;
      packed = c.packed_runs_agree.ensures;
      reads = c.memory_is_read_back.ensures;
    }) (c.goes_on.ensures c.join_streams.new.builder c.well_made-2.ensures)
    (c.legal_runs_go_on.ensures c.join_streams.new.builder c.well_made-2.ensures whole.upto.ports) whole)

pub returns-clause-module : goal.returns-clause-module
returns-clause-module c =
    interconnect_pruned c.args.plan.now c.in_ok-twice.twice c.in_ok-module.module c.ports_are_known.ensures c.well_made-3.ensures.well_made c.in_ok-module.ensures c.in_ok-twice.ensures

pub returns-clause-needed : goal.returns-clause-needed
returns-clause-needed c = c.in_ok-module.ensures.needed
