use Rattle.runs_tests.proofs.memory.WidthTraces.{wrapped_is}
use Rattle.runs_tests.proofs.memory.wrapped_burst.Goals as goal

pub returns-clause-ordered : goal.returns-clause-ordered
returns-clause-ordered c = wrapped_is
