use Rattle.cycle_sim.specs.Readers.{AreNetReaders}
use Rattle.cycle_sim.proofs.reading.readers.net_readers.Given as goal

abbrev pub invariant-loop-net : goal.invariant-loop-net
invariant-loop-net l = AreNetReaders l.module l.lists l.net
