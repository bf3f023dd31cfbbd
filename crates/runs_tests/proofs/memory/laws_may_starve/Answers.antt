use Rattle.runs_tests.proofs.memory.StarvingRun.{top_carries, always_falls, starving_is_not}
use Rattle.runs_tests.proofs.memory.laws_may_starve.Goals as goal

pub returns-clause-commands : goal.returns-clause-commands
returns-clause-commands c = top_carries

pub returns-clause-rank : goal.returns-clause-rank
returns-clause-rank c = always_falls

pub returns-clause-asleep : goal.returns-clause-asleep
returns-clause-asleep c = starving_is_not
