use Rattle.runs_tests.proofs.memory.IdleRuns.{passing_asleep, starves}
use Rattle.runs_tests.proofs.memory.awake.starved_agent.Goals as goal

pub returns-clause-asleep : goal.returns-clause-asleep
returns-clause-asleep c = passing_asleep

pub returns-clause-refused : goal.returns-clause-refused
returns-clause-refused c = starves
