use Rattle.cycle_sim.proofs.Steps.{IsEvaluatedIn}
use Rattle.cycle_sim.proofs.nets.evaluate_block.Given as goal

abbrev pub invariant-loop-net : goal.invariant-loop-net
invariant-loop-net l = IsEvaluatedIn l.module l.cells.words.items l.initial.nets l.nets l.stale l.net
