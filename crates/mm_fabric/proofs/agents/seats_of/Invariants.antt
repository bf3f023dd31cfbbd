use Rattle.mm_fabric.proofs.Seating.{AreSeatsSoFar}
use Rattle.mm_fabric.proofs.agents.seats_of.Given as goal

abbrev pub invariant-loop-k : goal.invariant-loop-k
invariant-loop-k l = AreSeatsSoFar l.askers l.commands l.backs l.seats l.k
