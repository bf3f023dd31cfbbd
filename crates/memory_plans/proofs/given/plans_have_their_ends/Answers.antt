use Rattle.memory_plans.proofs.Ends.{a_host, an_agent, ends_of}
use Rattle.memory_plans.proofs.given.plans_have_their_ends.Goals as goal

pub returns : goal.returns
returns c = record {
  hosts = λ plan is. a_host plan (c.ends_are_known.ensures.hosts plan.system is.system) c.proper_records_are_bounded.ensures.host;
  agents = λ plan is. an_agent plan (c.ends_are_known.ensures.agents plan.system is.system) c.proper_records_are_bounded.ensures.agent;
  links = λ plan is. ends_of plan (c.memory_connections_are_numbered.ensures.links plan.system is.system);
}
