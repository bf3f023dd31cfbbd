use Rattle.benches.proofs.agents.Many.{next_first}
use Rattle.benches.proofs.agents.all.agents_of_plan.Goals as goal

pub agent_of_plan-requires-clause-script : goal.agent_of_plan-requires-clause-script
agent_of_plan-requires-clause-script c port at = c.requires.scripts c.agents.number port c.script-script.result.now at c.script-script.ensures

pub agents-preserved : goal.agents-preserved
agents-preserved c =
    let next = next_first c.args.plan.now.system c.args.scripts.now c.args.cycles c.agents.number c.agents.agents.items c.push.new.self.items c.in-Ok.agent c.script-script.result.now c.agents.invariant.count
    c.agents.invariant.first c.in_ok-push-in-Ok.ensures.items c.script-script.ensures c.in-Ok.ensures in
    record { count = next.0; first = next.1 }
