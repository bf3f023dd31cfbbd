use Rattle.runs_tests.proofs.memory.IdleRuns.{stray_asleep, default}
use Rattle.runs_tests.proofs.memory.awake.sleeping_default_agent.Goals as goal

pub returns-clause-asleep : goal.returns-clause-asleep
returns-clause-asleep c = stray_asleep

pub returns-clause-refused : goal.returns-clause-refused
returns-clause-refused c = default
