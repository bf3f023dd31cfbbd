use Rattle.benches.proofs.hosts.Gathering.{none_begun, one_more_begun}
use Rattle.benches.proofs.hosts.host.hosts_of_plan.Goals as goal

pub hosts-init : goal.hosts-init
hosts-init c = none_begun c.args.plan.now.system c.args.scripts.now c.new-hosts.result.items c.new-hosts.ensures.items

pub first_host-requires-clause-script : goal.first_host-requires-clause-script
first_host-requires-clause-script c port at = c.requires.scripts c.hosts.number port c.script-script.result.now at c.script-script.ensures

pub hosts-preserved : goal.hosts-preserved
hosts-preserved c =
    one_more_begun c.args.plan.now.system c.args.scripts.now c.hosts.number c.hosts.hosts.items c.push.new.self.items c.first_host.result c.script-script.result.now c.hosts.invariant c.script-script.ensures
    c.first_host.ensures c.in_ok-push.ensures.items
