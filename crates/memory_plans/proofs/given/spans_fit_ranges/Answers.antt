use Rattle.memory_plans.proofs.Hosts.{spans_end}
use Rattle.memory_plans.proofs.given.spans_fit_ranges.Goals as goal

pub returns : goal.returns
returns c = λ plan is k link at. spans_end plan is (c.memory_connections_are_numbered.ensures.links plan.system is.system) k link at
