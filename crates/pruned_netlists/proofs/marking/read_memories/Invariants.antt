use Rattle.pruned_netlists.proofs.Needs.{AreReadBy}
use Rattle.pruned_netlists.proofs.marking.read_memories.Given as goal

abbrev pub invariant-loop-net : goal.invariant-loop-net
invariant-loop-net l = AreReadBy l.module l.net l.read.items
