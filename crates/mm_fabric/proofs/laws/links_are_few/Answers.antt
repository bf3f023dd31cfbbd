use Rattle.std.proofs.lemmas.Option.{slice_get_within}
use Rattle.address_map.specs.Maps.{agents_of}
use Rattle.mm_fabric.proofs.Counting.{links_for_agents}
use Rattle.mm_fabric.proofs.laws.links_are_few.Goals as goal
use Rattle.std.proofs.Common.{length}

pub returns : goal.returns
returns c = λ plan is.
    (let linked = c.plans_are_linked.ensures plan is in
    links_for_agents plan.system (length (agents_of plan.system)) (λ a below. (linked.agents a below).few)
    (λ k link at. (let numbered = c.memory_connections_are_numbered.ensures.links plan.system is.system k link at in slice_get_within (agents_of plan.system) link.agent_number numbered.connection.end numbered.agent_is)))
