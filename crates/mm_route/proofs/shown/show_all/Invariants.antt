use Rattle.mm_route.specs.Shown.{AreShownSoFar}
use Rattle.mm_route.proofs.shown.show_all.Given as goal

abbrev pub invariant-loop-k : goal.invariant-loop-k
invariant-loop-k l = AreShownSoFar l.fn.builder l.builder l.shown l.commands.items l.k
