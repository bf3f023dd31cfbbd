use Rattle.link_rules.specs.Plans.{PlanTable, IsPlan}
use Rattle.memory_plans.proofs.PlanLemmas.{PlanLaws, is_memory_plan, apart, has_link}
use Rattle.memory_plans.proofs.plans_are_memory_plans.Goals as goal
use Rattle.memory_plans.proofs.plans_are_memory_plans.Goals.{After-ends_are_known}

laws : (c : After-ends_are_known) (plan : PlanTable) → IsPlan plan → PlanLaws plan
laws c plan is = record {
  numbered = c.memory_connections_are_numbered.ensures.links plan.system is.system;
  keeps = c.links_keep_rules.ensures.memory plan is;
  one_end = c.ends_have_one_number.ensures.one plan.system;
  known_hosts = c.ends_are_known.ensures.hosts plan.system is.system;
  known_agents = c.ends_are_known.ensures.agents plan.system is.system;
  places = c.places_are_in_footprints.ensures plan.system plan.maps is.maps;
  bounded_host = c.proper_records_are_bounded.ensures.host;
  bounded_agent = c.proper_records_are_bounded.ensures.agent;
}

pub returns : goal.returns
returns c = record {
  kept = λ plan is. is_memory_plan plan is (laws c plan is);
  apart = λ plan is. apart plan is (laws c plan is);
  links = λ plan is. has_link plan is (laws c plan is);
}
