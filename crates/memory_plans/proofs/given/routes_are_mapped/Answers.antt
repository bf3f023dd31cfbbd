use Rattle.memory_plans.proofs.Hosts.{below, are_mapped}
use Rattle.memory_plans.proofs.given.routes_are_mapped.Goals as goal

pub returns : goal.returns
returns c = λ plan is host port is_host width reach.
    (let numbered = c.memory_connections_are_numbered.ensures.links plan.system is.system in
    let here = below plan is numbered host port is_host width reach in
    are_mapped plan is numbered host port is_host width reach (c.plans_are_memory_plans.ensures.kept plan is) (c.routes_are_the_map.ensures plan is host here))
