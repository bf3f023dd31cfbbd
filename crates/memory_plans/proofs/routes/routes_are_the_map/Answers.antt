use Rattle.memory_plans.proofs.RouteLemmas.{are_routes}
use Rattle.memory_plans.proofs.routes.routes_are_the_map.Goals as goal

pub returns : goal.returns
returns c = λ plan is host below. are_routes plan is (c.memory_connections_are_numbered.ensures.links plan.system is.system) (c.plans_are_memory_plans.ensures.links plan is) (c.plans_are_memory_plans.ensures.kept plan is)
    c.proper_records_are_bounded.ensures.host c.proper_records_are_bounded.ensures.agent host below
