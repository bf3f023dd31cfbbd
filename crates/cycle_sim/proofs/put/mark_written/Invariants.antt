use Rattle.cycle_sim.proofs.Settling.{AreWrittenStale}
use Rattle.cycle_sim.proofs.put.mark_written.Given as goal

abbrev pub invariant-loop-m : goal.invariant-loop-m
invariant-loop-m l = AreWrittenStale l.module l.nets l.readers.of_memories l.initial.stale l.stale l.m
