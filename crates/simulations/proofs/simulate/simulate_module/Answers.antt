use Rattle.std.proofs.Common.{sym, subst, arith}
use Rattle.simulations.specs.Benches.{IsSetUp}
use Rattle.simulations.specs.Value.{value_of}
use Rattle.simulations.specs.Cycles.{IsEvaluated}
use Rattle.simulations.proofs.Simulating.{holds_nothing, is_told, no_run, tells_next, told_whole, trace_part, trace_rose, trace_whole}
use Rattle.simulations.proofs.simulate.simulate_module.Goals as goal

pub cycles-init : goal.cycles-init
cycles-init g c = record {
  run = no_run;
  netlist_is = c.in_ok-simulation.ensures.netlist;
  set = c.in_ok-simulation.ensures.set;
  under_way = c.in_ok-simulation.ensures.under_way no_run;
  holding = holds_nothing _ _;
}

pub evaluate-requires : goal.evaluate-requires
evaluate-requires g c =
    let f = c.cycles.invariant in
    record { plan = c.args.plan.now; scenario = c.args.scenario.now; run = f.run; cycle = c.cycles.cycle; set = f.set; left = c.cycles-test.true; under_way = f.under_way }

pub tell_more-whole-requires : goal.tell_more-whole-requires
tell_more-whole-requires g c =
    let f = c.cycles.invariant in
    is_told c.args.plan.now c.args.scenario.now f.run c.cycles.cycle (value_of c.cycles.simulation) (value_of c.evaluate.new.self) f.set c.cycles-test.true c.evaluate.ensures.netlist
    (c.evaluate.ensures.evaluated c.args.plan.now c.args.scenario.now f.run c.cycles.cycle f.set c.cycles-test.true f.under_way)

pub end_cycle-requires : goal.end_cycle-requires
end_cycle-requires g c =
    let f = c.cycles.invariant in
    is_told c.args.plan.now c.args.scenario.now f.run c.cycles.cycle (value_of c.cycles.simulation) (value_of c.evaluate.new.self) f.set c.cycles-test.true c.evaluate.ensures.netlist
    (c.evaluate.ensures.evaluated c.args.plan.now c.args.scenario.now f.run c.cycles.cycle f.set c.cycles-test.true f.under_way)

pub cycles-preserved : goal.cycles-preserved
cycles-preserved g c =
    let f = c.cycles.invariant in
    let plan = c.args.plan.now in
    let scenario = c.args.scenario.now in
    let k = c.cycles.cycle in
    let evaluated : IsEvaluated plan scenario f.run k (value_of c.evaluate.new.self) = c.evaluate.ensures.evaluated plan scenario f.run k f.set c.cycles-test.true f.under_way in
    let set = subst (IsSetUp plan scenario) (sym c.evaluate.ensures.netlist) f.set in
    tells_next c.cycles_are_told.ensures.lines c.earlier_cycles_are_told.ensures.lines plan scenario c.args.module k (value_of c.cycles.simulation) (value_of c.evaluate.new.self) (value_of c.end_cycle.new.self)
    c.cycles.whole c.tell_more-whole.result _ _ _ _ _ _ f (record {
      set = f.set;
      same = c.evaluate.ensures.netlist;
      evaluated_is = evaluated;
      same_after = c.end_cycle.ensures.netlist;
      under_way = c.end_cycle.ensures.under_way plan scenario f.run k set c.cycles-test.true evaluated;
    }) c.tell_more-whole.ensures.lines

pub returns-clause-whole : goal.returns-clause-whole
returns-clause-whole g c = trace_whole c.args.plan.now c.args.scenario.now c.args.module c.tell_end.result (g.K.Sink.held c.args.sink.now) (g.K.Sink.faults c.args.sink.now) (g.K.Sink.held c.tell_end.new.sink) (g.K.Sink.faults c.tell_end.new.sink) (let low = c.cycles-test.false in
    let most = c.cycles.auto.cycle-end in
    told_whole c.args.plan.now c.args.scenario.now c.args.module c.cycles.cycle (value_of c.cycles.simulation) c.cycles.whole c.tell_end.result (g.K.Sink.held c.args.sink.now) (g.K.Sink.held c.cycles.sink)
    (g.K.Sink.held c.tell_end.new.sink) (g.K.Sink.faults c.args.sink.now) (g.K.Sink.faults c.cycles.sink) (g.K.Sink.faults c.tell_end.new.sink) c.cycles.invariant (omega (arith, low, most)) c.tell_end.ensures.lines)

pub returns-clause-part : goal.returns-clause-part
returns-clause-part g c = trace_part c.args.plan.now c.args.scenario.now c.args.module c.tell_end.result (g.K.Sink.held c.args.sink.now) (g.K.Sink.faults c.args.sink.now) (g.K.Sink.held c.tell_end.new.sink) (g.K.Sink.faults c.tell_end.new.sink) (let low = c.cycles-test.false in
    let most = c.cycles.auto.cycle-end in
    told_whole c.args.plan.now c.args.scenario.now c.args.module c.cycles.cycle (value_of c.cycles.simulation) c.cycles.whole c.tell_end.result (g.K.Sink.held c.args.sink.now) (g.K.Sink.held c.cycles.sink)
    (g.K.Sink.held c.tell_end.new.sink) (g.K.Sink.faults c.args.sink.now) (g.K.Sink.faults c.cycles.sink) (g.K.Sink.faults c.tell_end.new.sink) c.cycles.invariant (omega (arith, low, most)) c.tell_end.ensures.lines)

pub returns-clause-rose : goal.returns-clause-rose
returns-clause-rose g c = trace_rose c.tell_end.result (g.K.Sink.faults c.args.sink.now) (g.K.Sink.faults c.tell_end.new.sink) (let low = c.cycles-test.false in
    let most = c.cycles.auto.cycle-end in
    told_whole c.args.plan.now c.args.scenario.now c.args.module c.cycles.cycle (value_of c.cycles.simulation) c.cycles.whole c.tell_end.result (g.K.Sink.held c.args.sink.now) (g.K.Sink.held c.cycles.sink)
    (g.K.Sink.held c.tell_end.new.sink) (g.K.Sink.faults c.args.sink.now) (g.K.Sink.faults c.cycles.sink) (g.K.Sink.faults c.tell_end.new.sink) c.cycles.invariant (omega (arith, low, most)) c.tell_end.ensures.lines).holding.rose

pub returns-clause-grows : goal.returns-clause-grows
returns-clause-grows g c = (let low = c.cycles-test.false in
    let most = c.cycles.auto.cycle-end in
    told_whole c.args.plan.now c.args.scenario.now c.args.module c.cycles.cycle (value_of c.cycles.simulation) c.cycles.whole c.tell_end.result (g.K.Sink.held c.args.sink.now) (g.K.Sink.held c.cycles.sink)
    (g.K.Sink.held c.tell_end.new.sink) (g.K.Sink.faults c.args.sink.now) (g.K.Sink.faults c.cycles.sink) (g.K.Sink.faults c.tell_end.new.sink) c.cycles.invariant (omega (arith, low, most)) c.tell_end.ensures.lines).holding.grows

pub returns-clause-below : goal.returns-clause-below
returns-clause-below g c = (let low = c.cycles-test.false in
    let most = c.cycles.auto.cycle-end in
    told_whole c.args.plan.now c.args.scenario.now c.args.module c.cycles.cycle (value_of c.cycles.simulation) c.cycles.whole c.tell_end.result (g.K.Sink.held c.args.sink.now) (g.K.Sink.held c.cycles.sink)
    (g.K.Sink.held c.tell_end.new.sink) (g.K.Sink.faults c.args.sink.now) (g.K.Sink.faults c.cycles.sink) (g.K.Sink.faults c.tell_end.new.sink) c.cycles.invariant (omega (arith, low, most)) c.tell_end.ensures.lines).holding.below
