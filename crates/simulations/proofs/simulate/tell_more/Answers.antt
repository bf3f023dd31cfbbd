use Rattle.simulations.specs.Cycles.{lines_of}
use Rattle.simulations.specs.Value.{value_of}
use Rattle.simulations.proofs.Simulating.{holds_next, holds_still}
use Rattle.simulations.proofs.simulate.tell_more.Goals as goal

pub returns-then-not-whole : goal.returns-then-not-whole
returns-then-not-whole g c = record { lines = λ start faults lines is. holds_still c.args.whole start _ faults _ lines (lines_of (value_of c.args.simulation.now) c.args.cycle) c.if-not-whole.true is }

pub returns : goal.returns
returns g c = record {
  lines = λ start faults lines is.
      holds_next c.args.whole c.tell.result start _ _ faults _ _ lines (lines_of (value_of c.args.simulation.now) c.args.cycle) c.if-not-whole.false is c.tell.ensures.all c.tell.ensures.part c.tell.ensures.rose c.tell.ensures.grows
      c.tell.ensures.below;
}
