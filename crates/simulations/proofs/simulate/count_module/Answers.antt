use Rattle.std.proofs.Common.{◌≡◌, ◌+◌, ◌-◌, ◌*◌, ℕ, sym, subst, arith}
use Rattle.benches.specs.Counting.{HaveRoom}
use Rattle.simulations.specs.Benches.{IsSetUp}
use Rattle.simulations.specs.Traces.{run_ends}
use Rattle.simulations.specs.Value.{value_of}
use Rattle.simulations.specs.Cycles.{IsEvaluated}
use Rattle.simulations.proofs.Simulating.{counts_on, counted_whole, is_told, no_run}
use Rattle.simulations.proofs.simulate.count_module.Goals as goal

pub cycles-init : goal.cycles-init
cycles-init c = record {
  so_far = record {
    run = no_run;
    netlist_is = c.in_ok-simulation.ensures.netlist;
    set = c.in_ok-simulation.ensures.set;
    under_way = c.in_ok-simulation.ensures.under_way no_run;
    counted = sym (c.counts_grow_by_cycles.ensures.first (run_ends c.args.plan.now c.in_ok-simulation.simulation.sim.netlist no_run));
  };
  room = let few = c.requires.scenario.few in record { taken = omega (arith, few); answered = omega (arith, few); delivered = omega (arith, few); dropped = omega (arith, few) };
}

pub evaluate-requires : goal.evaluate-requires
evaluate-requires c =
    let f = c.cycles.invariant.so_far in
    record { plan = c.args.plan.now; scenario = c.args.scenario.now; run = f.run; cycle = c.cycles.counter; set = f.set; left = c.cycles-test.true; under_way = f.under_way }

pub count-counts-requires-clause-room : goal.count-counts-requires-clause-room
count-counts-requires-clause-room c =
    let left = c.cycles-test.true in
    let room = c.cycles.invariant.room in
    record {
      taken = (let r = room.taken in omega (arith, left, r));
      answered = (let r = room.answered in omega (arith, left, r));
      delivered = (let r = room.delivered in omega (arith, left, r));
      dropped = (let r = room.dropped in omega (arith, left, r));
    }

pub count-counts-requires-clause-told : goal.count-counts-requires-clause-told
count-counts-requires-clause-told c =
    let f = c.cycles.invariant.so_far in
    is_told c.args.plan.now c.args.scenario.now f.run c.cycles.counter (value_of c.cycles.simulation) (value_of c.evaluate.new.self) f.set c.cycles-test.true c.evaluate.ensures.netlist
    (c.evaluate.ensures.evaluated c.args.plan.now c.args.scenario.now f.run c.cycles.counter f.set c.cycles-test.true f.under_way)

pub end_cycle-requires : goal.end_cycle-requires
end_cycle-requires c =
    let f = c.cycles.invariant.so_far in
    is_told c.args.plan.now c.args.scenario.now f.run c.cycles.counter (value_of c.cycles.simulation) (value_of c.evaluate.new.self) f.set c.cycles-test.true c.evaluate.ensures.netlist
    (c.evaluate.ensures.evaluated c.args.plan.now c.args.scenario.now f.run c.cycles.counter f.set c.cycles-test.true f.under_way)

pub cycles-preserved : goal.cycles-preserved
cycles-preserved c =
    let f = c.cycles.invariant.so_far in
    let plan = c.args.plan.now in
    let scenario = c.args.scenario.now in
    let k = c.cycles.counter in
    let evaluated : IsEvaluated plan scenario f.run k (value_of c.evaluate.new.self) = c.evaluate.ensures.evaluated plan scenario f.run k f.set c.cycles-test.true f.under_way in
    let set = subst (IsSetUp plan scenario) (sym c.evaluate.ensures.netlist) f.set in
    record {
      so_far = counts_on c.counts_grow_by_cycles.ensures.first c.counts_grow_by_cycles.ensures.next c.cycles_are_told.ensures.counted c.earlier_cycles_are_told.ensures.counted plan scenario c.args.module k
          (value_of c.cycles.simulation) (value_of c.evaluate.new.self) (value_of c.end_cycle.new.self) c.cycles.counts c.count-counts.result f (record {
            set = f.set;
            same = c.evaluate.ensures.netlist;
            evaluated_is = evaluated;
            same_after = c.end_cycle.ensures.netlist;
            under_way = c.end_cycle.ensures.under_way plan scenario f.run k set c.cycles-test.true evaluated;
          }) c.count-counts.ensures.value;
      room = c.count-counts.ensures.room (64 * (scenario.cycles - (k + 1)))
          (let left = c.cycles-test.true in subst (λ (n : ℕ). HaveRoom n c.cycles.counts) (let is : 64 * (scenario.cycles - k) ≡ 64 + 64 * (scenario.cycles - (k + 1)) = omega (arith, left) in is) c.cycles.invariant.room);
    }

pub returns : goal.returns
returns c =
    let low = c.cycles-test.false in
    let most = c.cycles.auto.counter-end in
    counted_whole c.args.plan.now c.args.scenario.now c.args.module c.cycles.counter (value_of c.cycles.simulation) c.cycles.counts c.cycles.invariant.so_far (omega (arith, low, most))
