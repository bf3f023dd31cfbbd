use Rattle.memory_plans.proofs.Links.{links_by_connections}
use Rattle.memory_plans.proofs.given.links_are_connections.Goals as goal

pub returns : goal.returns
returns c = λ plan is. links_by_connections plan.system is.system.connections
