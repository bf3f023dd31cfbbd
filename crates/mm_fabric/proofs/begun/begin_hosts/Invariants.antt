use Rattle.mm_fabric.specs.Begun.{HaveBegunSoFar}
use Rattle.mm_fabric.proofs.begun.begin_hosts.Given as goal

abbrev pub invariant-loop-number : goal.invariant-loop-number
invariant-loop-number l = HaveBegunSoFar l.plan l.fn.builder l.builder l.ends l.begun l.number
