use Rattle.runs_tests.proofs.memory.IdleRuns.{swallow_asleep, swallows}
use Rattle.runs_tests.proofs.memory.awake.swallowed_word.Goals as goal

pub returns-clause-asleep : goal.returns-clause-asleep
returns-clause-asleep c = swallow_asleep

pub returns-clause-refused : goal.returns-clause-refused
returns-clause-refused c = swallows
