use Rattle.pruned_netlists.specs.Numbers.{AreRoots}
use Rattle.pruned_netlists.proofs.marking.push_drivers.Given as goal

abbrev pub invariant-loop-k : goal.invariant-loop-k
invariant-loop-k l = AreRoots l.module l.k l.pending.items
