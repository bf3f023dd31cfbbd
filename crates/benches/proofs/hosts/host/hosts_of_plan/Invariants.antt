use Rattle.benches.proofs.hosts.Gathering.{AreBegun}
use Rattle.benches.proofs.hosts.host.hosts_of_plan.Given as goal

abbrev pub invariant-hosts : goal.invariant-hosts
invariant-hosts l = AreBegun l.plan.system l.scripts l.number l.hosts.items
