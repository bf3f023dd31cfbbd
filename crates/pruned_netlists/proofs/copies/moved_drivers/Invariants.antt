use Rattle.pruned_netlists.proofs.Keeping.{AreMovedDrivers}
use Rattle.pruned_netlists.proofs.copies.moved_drivers.Given as goal

abbrev pub invariant-loop-k : goal.invariant-loop-k
invariant-loop-k l = AreMovedDrivers l.module l.nets l.k l.drivers.items
