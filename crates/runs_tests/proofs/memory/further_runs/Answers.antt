use Rattle.runs_tests.proofs.memory.Traces.{stuck_at_default_is_not, two_reads_are}
use Rattle.runs_tests.proofs.memory.further_runs.Goals as goal

pub returns-clause-default : goal.returns-clause-default
returns-clause-default c = stuck_at_default_is_not

pub returns-clause-bound : goal.returns-clause-bound
returns-clause-bound c = two_reads_are
