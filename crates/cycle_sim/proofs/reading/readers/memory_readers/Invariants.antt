use Rattle.cycle_sim.specs.Readers.{AreMemoryReaders}
use Rattle.cycle_sim.proofs.reading.readers.memory_readers.Given as goal

abbrev pub invariant-loop-net : goal.invariant-loop-net
invariant-loop-net l = AreMemoryReaders l.module l.lists l.net
