use Rattle.std.proofs.Common.{◌≡◌, refl, List, sym, ap, subst, ◌∙◌}
use Rattle.av_base.specs.Word.{Word}
use Rattle.cycle_sim.specs.Sims.{SimValue, widths_of}
use Rattle.lane_sim.specs.LaneSims.{IsStepWith}
use Rattle.simulations.specs.Benches.{BenchValue}
use Rattle.simulations.specs.Cycles.{IsAsked, IsEvaluated, answered}
use Rattle.simulations.specs.Value.{value_of, value_with}
use Rattle.simulations.proofs.Sims.{row_is, stepped_with, with_sim}
use Rattle.simulations.proofs.simulation.Simulation.answer.Goals as goal

pub answer-requires : goal.answer-requires
answer-requires c = subst (λ (sim : SimValue). IsAsked (value_with sim c.args.self.now.bench)) (sym c.plain.ensures) c.requires

pub step-requires : goal.step-requires
step-requires c =
    let r = c.requires in
    let bench = value_of c.args.self.now in
    let sim = c.args.self.now.sim in
    let now = subst (λ (s : SimValue). value_with s c.answer.new.self ≡ answered (value_with s c.args.self.now.bench)) c.plain.ensures c.answer.ensures in
    let is = row_is c.row.result.now _ (value_with sim c.answer.new.self) (answered bench) c.row.ensures now refl in
    ap widths_of is ∙ c.answers_are_evaluated.ensures.inputs r.plan r.scenario r.run r.cycle bench r.set r.shown

pub returns-clause-evaluated : goal.returns-clause-evaluated
returns-clause-evaluated c = λ plan scenario run k set left shown.
    let bench = value_of c.args.self.now in
    let sim = c.args.self.now.sim in
    let after = c.step.new.self in
    let now = subst (λ (s : SimValue). value_with s c.answer.new.self ≡ answered (value_with s c.args.self.now.bench)) c.plain.ensures c.answer.ensures in
    let is = row_is c.row.result.now _ (value_with sim c.answer.new.self) (answered bench) c.row.ensures now refl in
    let step : IsStepWith sim after c.row.result.now = record {
      netlist = c.step.ensures.netlist;
      valuation = c.step.ensures.valuation;
      inputs_are = c.step.ensures.inputs;
      state = c.step.ensures.state;
      only = c.step.ensures.only;
      stands = c.step.ensures.stands;
      run = c.step.ensures.run;
    } in
    subst (IsEvaluated plan scenario run k) (sym (with_sim after (value_with sim c.answer.new.self) (answered bench) now))
    (c.answers_are_evaluated.ensures.evaluated plan scenario run k bench after set shown (stepped_with sim after c.row.result.now (answered bench).row is step) c.step.ensures.stepped)
