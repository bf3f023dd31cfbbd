use Rattle.std.proofs.Common.{refl, sym, subst}
use Rattle.simulations.specs.Benches.{IsSetUp}
use Rattle.simulations.specs.Value.{value_of}
use Rattle.simulations.proofs.simulation.Simulation.evaluate.Goals as goal

pub answer-requires : goal.answer-requires
answer-requires c =
    let r = c.requires in
    record {
      plan = r.plan;
      scenario = r.scenario;
      run = r.run;
      cycle = r.cycle;
      set = subst (IsSetUp r.plan r.scenario) (sym c.show.ensures.netlist) r.set;
      left = r.left;
      shown = c.show.ensures.shown r.plan r.scenario r.run r.cycle r.set r.under_way;
    }

pub returns-then-gives_at_once-clause-evaluated : goal.returns-then-gives_at_once-clause-evaluated
returns-then-gives_at_once-clause-evaluated c = λ plan scenario run k set left way.
    c.answer.ensures.evaluated plan scenario run k (subst (IsSetUp plan scenario) (sym c.show.ensures.netlist) set) left (c.show.ensures.shown plan scenario run k set way)

pub returns-else-gives_at_once-clause-evaluated : goal.returns-else-gives_at_once-clause-evaluated
returns-else-gives_at_once-clause-evaluated c = λ plan scenario run k set left way.
    c.answers_are_evaluated.ensures.at_once plan scenario run k (value_of c.show.new.self) (subst (IsSetUp plan scenario) (sym c.show.ensures.netlist) set)
    (c.show.ensures.shown plan scenario run k set way) (c.if-gives_at_once.ensures refl)
