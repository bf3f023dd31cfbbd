use Rattle.cycle_sim.proofs.Steps.{IsEvaluatedTo}
use Rattle.cycle_sim.proofs.nets.evaluate.Given as goal

abbrev pub invariant-loop-block : goal.invariant-loop-block
invariant-loop-block l = IsEvaluatedTo l.module l.inputs l.cells.words.items l.initial.nets l.nets l.stale l.block
