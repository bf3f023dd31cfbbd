use Rattle.runs_tests.proofs.memory.WidthTraces.{parts_are, turned_is_not, too_long_is_not}
use Rattle.runs_tests.proofs.memory.burst_in_parts.Goals as goal

pub returns-clause-ordered : goal.returns-clause-ordered
returns-clause-ordered c = parts_are

pub returns-clause-turned : goal.returns-clause-turned
returns-clause-turned c = turned_is_not

pub returns-clause-too_long : goal.returns-clause-too_long
returns-clause-too_long c = too_long_is_not
