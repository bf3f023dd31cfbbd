use Rattle.narrowed_netlists.specs.Masks.{AreOpen}
use Rattle.narrowed_netlists.proofs.masks.are_open.Given as goal

abbrev pub invariant-loop-number : goal.invariant-loop-number
invariant-loop-number l = AreOpen l.module l.masks l.gaps l.number
