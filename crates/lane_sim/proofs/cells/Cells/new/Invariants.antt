use Rattle.lane_sim.proofs.Words.{AreCleared}
use Rattle.lane_sim.proofs.cells.Cells.new.Given as goal

abbrev pub invariant-loop-number : goal.invariant-loop-number
invariant-loop-number l = AreCleared l.module.memories l.places.items l.words.items l.number
