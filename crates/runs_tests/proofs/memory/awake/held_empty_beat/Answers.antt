use Rattle.runs_tests.proofs.memory.IdleRuns.{held_asleep, held}
use Rattle.runs_tests.proofs.memory.awake.held_empty_beat.Goals as goal

pub returns-clause-asleep : goal.returns-clause-asleep
returns-clause-asleep c = held_asleep

pub returns-clause-refused : goal.returns-clause-refused
returns-clause-refused c = held
