use Rattle.memory_plans.specs.Systems.{memory_system}
use Rattle.memory_plans.proofs.Apart.{apart_from_distinct}
use Rattle.memory_plans.proofs.given.plans_are_apart.Goals as goal

pub returns : goal.returns
returns c = λ plan is agent. apart_from_distinct ((memory_system plan).joined agent) (c.plans_are_memory_plans.ensures.apart plan is agent)
