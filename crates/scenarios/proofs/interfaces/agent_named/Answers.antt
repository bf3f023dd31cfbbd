use Rattle.std.proofs.Common.{◌<◌, List, length, subst}
use Rattle.system_tables.specs.declared.tables.EndId.{EndId}
use Rattle.scenarios.proofs.InterfaceLemmas.{an_agent}
use Rattle.scenarios.proofs.interfaces.agent_named.Goals as goal

pub agent-requires : goal.agent-requires
agent-requires c = subst (λ (ends : List EndId). c.in_ok-number.number < length ends) c.agents.ensures c.in_ok-number.ensures.inside

pub returns-clause-ok : goal.returns-clause-ok
returns-clause-ok c = an_agent c.args.plan.now.system c.agents.result.now c.args.word.now c.in_ok-number.number c.agent.result c.agents.ensures c.in_ok-number.ensures.ok c.agent.ensures.at

pub returns-clause-number : goal.returns-clause-number
returns-clause-number c = subst (λ (ends : List EndId). c.in_ok-number.number < length ends) c.agents.ensures c.in_ok-number.ensures.inside
