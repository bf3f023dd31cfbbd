use Rattle.runs_tests.proofs.memory.IdleRuns.{limiter_is_a_route, splitter_falls_not}
use Rattle.runs_tests.proofs.memory.awake.registered_gates.Goals as goal

pub returns-clause-route : goal.returns-clause-route
returns-clause-route c = limiter_is_a_route

pub returns-clause-splitter : goal.returns-clause-splitter
returns-clause-splitter c = splitter_falls_not
