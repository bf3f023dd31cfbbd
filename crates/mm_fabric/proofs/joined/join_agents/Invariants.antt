use Rattle.mm_fabric.specs.Joined.{AreJoinedSoFar}
use Rattle.mm_fabric.proofs.joined.join_agents.Given as goal

abbrev pub invariant-loop-number : goal.invariant-loop-number
invariant-loop-number l = AreJoinedSoFar l.plan l.fn.builder l.builder l.begun l.ends l.parts l.number
