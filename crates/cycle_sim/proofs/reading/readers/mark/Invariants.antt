use Rattle.cycle_sim.proofs.reading.Blocks.{AreMarked}
use Rattle.cycle_sim.proofs.reading.readers.mark.Given as goal

abbrev pub invariant-loop-block : goal.invariant-loop-block
invariant-loop-block l = AreMarked l.blocks l.initial.stale l.stale l.block-index
