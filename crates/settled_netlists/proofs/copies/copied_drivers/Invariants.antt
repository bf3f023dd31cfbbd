use Rattle.settled_netlists.proofs.Copying.{AreCopiedDrivers}
use Rattle.settled_netlists.proofs.copies.copied_drivers.Given as goal

abbrev pub invariant-loop-k : goal.invariant-loop-k
invariant-loop-k l = AreCopiedDrivers l.module l.k l.drivers.items
