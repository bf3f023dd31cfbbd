use Rattle.mm_fabric.specs.Finished.{AreFinishedSoFar}
use Rattle.mm_fabric.proofs.finished.finish_hosts.Given as goal

abbrev pub invariant-loop-number : goal.invariant-loop-number
invariant-loop-number l = AreFinishedSoFar l.fn.builder l.builder l.parts l.begun l.hosts l.number
