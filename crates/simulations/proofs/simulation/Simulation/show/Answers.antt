use Rattle.std.proofs.Common.{◌≡◌, refl, List, sym, ap, subst, ◌∙◌}
use Rattle.av_base.specs.Word.{Word}
use Rattle.cycle_sim.specs.Sims.{SimValue, widths_of}
use Rattle.lane_sim.specs.LaneSims.{IsStepWith}
use Rattle.simulations.specs.Benches.{BenchValue}
use Rattle.simulations.specs.Cycles.{IsShown, first_words, shown_first}
use Rattle.simulations.specs.Value.{value_of, value_with}
use Rattle.simulations.proofs.Sims.{row_is, stepped_with, with_sim}
use Rattle.simulations.proofs.simulation.Simulation.show.Goals as goal

pub show-requires : goal.show-requires
show-requires c = (c.args.self.now.sim, c.requires)

pub step-requires : goal.step-requires
step-requires c =
    let r = c.requires in
    let bench = value_of c.args.self.now in
    let sim = c.args.self.now.sim in
    let is = row_is c.row.result.now _ (value_with sim c.show.new.self) (shown_first bench) c.row.ensures (c.show.ensures sim) refl in
    ap widths_of is ∙ c.first_steps_are_shown.ensures.inputs r.plan r.scenario r.run r.cycle bench r.set r.under_way

pub returns-clause-shown : goal.returns-clause-shown
returns-clause-shown c = λ plan scenario run k set way.
    let bench = value_of c.args.self.now in
    let sim = c.args.self.now.sim in
    let after = c.step.new.self in
    let is = row_is c.row.result.now _ (value_with sim c.show.new.self) (shown_first bench) c.row.ensures (c.show.ensures sim) refl in
    let step : IsStepWith sim after c.row.result.now = record {
      netlist = c.step.ensures.netlist;
      valuation = c.step.ensures.valuation;
      inputs_are = c.step.ensures.inputs;
      state = c.step.ensures.state;
      only = c.step.ensures.only;
      stands = c.step.ensures.stands;
      run = c.step.ensures.run;
    } in
    subst (IsShown plan scenario run k first_words) (sym (with_sim after (value_with sim c.show.new.self) (shown_first bench) (c.show.ensures sim)))
    (c.first_steps_are_shown.ensures.shown plan scenario run k bench after set way (stepped_with sim after c.row.result.now (shown_first bench).row is step) c.step.ensures.stepped)
