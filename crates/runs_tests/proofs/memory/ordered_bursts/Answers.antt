use Rattle.runs_tests.proofs.memory.Traces.{whole_bursts_are}
use Rattle.runs_tests.proofs.memory.ordered_bursts.Goals as goal

pub returns-clause-ordered : goal.returns-clause-ordered
returns-clause-ordered c = whole_bursts_are
