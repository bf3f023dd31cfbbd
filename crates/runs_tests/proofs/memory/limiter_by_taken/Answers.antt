use Rattle.runs_tests.proofs.memory.FaultRuns.{split_is_not}
use Rattle.runs_tests.proofs.memory.limiter_by_taken.Goals as goal

pub returns-clause-broken : goal.returns-clause-broken
returns-clause-broken c = split_is_not
