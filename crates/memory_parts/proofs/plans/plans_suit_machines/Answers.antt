use Rattle.memory_parts.proofs.PlanLaws.{agent_plan, agent_suits, route_plan, host_reads_words}
use Rattle.memory_parts.proofs.plans.plans_suit_machines.Goals as goal

pub returns-clause-agents : goal.returns-clause-agents
returns-clause-agents c = agent_plan

pub returns-clause-sides : goal.returns-clause-sides
returns-clause-sides c = agent_suits

pub returns-clause-routes : goal.returns-clause-routes
returns-clause-routes c = route_plan

pub returns-clause-hosts : goal.returns-clause-hosts
returns-clause-hosts c = host_reads_words
