use Rattle.interconnect.specs.Hosts.{AreHostsIn}
use Rattle.interconnect.proofs.hosts.host_ends.Given as goal

abbrev pub invariant-loop-number : goal.invariant-loop-number
invariant-loop-number l = AreHostsIn l.plan.system l.builder l.number l.ends
