use Rattle.runs_tests.proofs.memory.FaultRuns.{laneless_is_not}
use Rattle.runs_tests.proofs.memory.laneless_beat.Goals as goal

pub returns-clause-after : goal.returns-clause-after
returns-clause-after c = laneless_is_not
