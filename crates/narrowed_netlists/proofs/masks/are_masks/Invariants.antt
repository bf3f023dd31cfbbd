use Rattle.narrowed_netlists.specs.Masks.{AreAllowed}
use Rattle.narrowed_netlists.proofs.masks.are_masks.Given as goal

abbrev pub invariant-loop-net : goal.invariant-loop-net
invariant-loop-net l = AreAllowed l.module l.masks l.gaps l.net
