use Rattle.runs_tests.proofs.memory.DefaultTraces.{limited_keeps}
use Rattle.runs_tests.proofs.memory.limiter.Goals as goal

pub returns-clause-kept : goal.returns-clause-kept
returns-clause-kept c = limited_keeps
