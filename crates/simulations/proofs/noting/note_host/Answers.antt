use Rattle.std.proofs.Common.{◌+◌, [], refl, sym, subst, arith}
use Rattle.simulations.specs.Benches.{IsSetUp}
use Rattle.simulations.specs.Cycles.{IsEvaluated}
use Rattle.simulations.specs.Noted.{with_beat, with_word}
use Rattle.simulations.specs.Value.{value_of}
use Rattle.simulations.proofs.NotedHosts.{host_at, noted_whole, notes_on, notes_with}
use Rattle.simulations.proofs.Simulating.{is_told, no_run}
use Rattle.simulations.proofs.noting.note_host.Goals as goal

pub cycles-init : goal.cycles-init
cycles-init g c = record {
  beats = 0;
  words = [];
  so_far = record {
    run = no_run;
    netlist_is = c.in_ok-simulation.ensures.netlist;
    set = c.in_ok-simulation.ensures.set;
    under_way = c.in_ok-simulation.ensures.under_way no_run;
    beats_are = refl;
    words_are = refl;
  };
  noted = c.requires.nothing;
}

pub evaluate-requires : goal.evaluate-requires
evaluate-requires g c =
    let f = c.cycles.invariant.so_far in
    record { plan = c.args.plan.now; scenario = c.args.scenario.now; run = f.run; cycle = c.cycles.counter; set = f.set; left = c.cycles-test.true; under_way = f.under_way }

pub is_write_taken-requires-clause-told : goal.is_write_taken-requires-clause-told
is_write_taken-requires-clause-told g c =
    let f = c.cycles.invariant.so_far in
    is_told c.args.plan.now c.args.scenario.now f.run c.cycles.counter (value_of c.cycles.simulation) (value_of c.evaluate.new.self) f.set c.cycles-test.true c.evaluate.ensures.netlist
    (c.evaluate.ensures.evaluated c.args.plan.now c.args.scenario.now f.run c.cycles.counter f.set c.cycles-test.true f.under_way)

pub is_write_taken-requires-clause-host : goal.is_write_taken-requires-clause-host
is_write_taken-requires-clause-host g c =
    let f = c.cycles.invariant.so_far in
    let count = (c.evaluate.ensures.evaluated c.args.plan.now c.args.scenario.now f.run c.cycles.counter f.set c.cycles-test.true f.under_way).under_way.components.host_count in
    let low = c.requires.host in
    omega (arith, count, low)

pub word_given-requires-clause-told : goal.word_given-requires-clause-told
word_given-requires-clause-told g c =
    let f = c.cycles.invariant.so_far in
    is_told c.args.plan.now c.args.scenario.now f.run c.cycles.counter (value_of c.cycles.simulation) (value_of c.evaluate.new.self) f.set c.cycles-test.true c.evaluate.ensures.netlist
    (c.evaluate.ensures.evaluated c.args.plan.now c.args.scenario.now f.run c.cycles.counter f.set c.cycles-test.true f.under_way)

pub word_given-requires-clause-host : goal.word_given-requires-clause-host
word_given-requires-clause-host g c =
    let f = c.cycles.invariant.so_far in
    let count = (c.evaluate.ensures.evaluated c.args.plan.now c.args.scenario.now f.run c.cycles.counter f.set c.cycles-test.true f.under_way).under_way.components.host_count in
    let low = c.requires.host in
    omega (arith, count, low)

pub end_cycle-requires : goal.end_cycle-requires
end_cycle-requires g c =
    let f = c.cycles.invariant.so_far in
    is_told c.args.plan.now c.args.scenario.now f.run c.cycles.counter (value_of c.cycles.simulation) (value_of c.evaluate.new.self) f.set c.cycles-test.true c.evaluate.ensures.netlist
    (c.evaluate.ensures.evaluated c.args.plan.now c.args.scenario.now f.run c.cycles.counter f.set c.cycles-test.true f.under_way)

pub cycles-preserved : goal.cycles-preserved
cycles-preserved g c =
    let i = c.cycles.invariant in
    let f = i.so_far in
    let plan = c.args.plan.now in
    let scenario = c.args.scenario.now in
    let number = c.args.host in
    let k = c.cycles.counter in
    let evaluated : IsEvaluated plan scenario f.run k (value_of c.evaluate.new.self) = c.evaluate.ensures.evaluated plan scenario f.run k f.set c.cycles-test.true f.under_way in
    let set = subst (IsSetUp plan scenario) (sym c.evaluate.ensures.netlist) f.set in
    let count = evaluated.under_way.components.host_count in
    let low = c.requires.host in
    let there = host_at (value_of c.evaluate.new.self).hosts number (omega (arith, count, low)) in
    let host = there.0 in
    let at = there.1 in
    let sound = c.components_are_sound.ensures.hosts plan scenario (value_of c.evaluate.new.self).sim.netlist f.run k (value_of c.evaluate.new.self) set evaluated.under_way.components number host at in
    record {
      beats = with_beat i.beats c.is_write_taken.result;
      words = with_word i.words c.word_given.result;
      so_far = notes_with plan scenario c.args.module (k + 1) (value_of c.end_cycle.new.self) number i.beats i.words _ _ _ _ (c.is_write_taken.ensures host at) (c.word_given.ensures host at)
          (notes_on c.earlier_cycles_stay.ensures.hosts plan scenario c.args.module k (value_of c.cycles.simulation) (value_of c.evaluate.new.self) (value_of c.end_cycle.new.self) number i.beats i.words host f (record {
            set = f.set;
            same = c.evaluate.ensures.netlist;
            evaluated_is = evaluated;
            same_after = c.end_cycle.ensures.netlist;
            under_way = c.end_cycle.ensures.under_way plan scenario f.run k set c.cycles-test.true evaluated;
          }) at sound.stands.of);
      noted = c.note.ensures c.args.notes.now i.beats i.words i.noted;
    }

pub returns : goal.returns
returns g c =
    let i = c.cycles.invariant in
    let low = c.cycles-test.false in
    let most = c.cycles.auto.counter-end in
    (i.beats, i.words, noted_whole c.args.plan.now c.args.scenario.now c.args.module c.cycles.counter (value_of c.cycles.simulation) c.args.host i.beats i.words i.so_far (omega (arith, low, most)), i.noted)
