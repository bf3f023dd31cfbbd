use Rattle.runs_tests.proofs.memory.DebtRun.{top_carries, debt_falls, debt_is_not}
use Rattle.runs_tests.proofs.memory.laws_may_block.Goals as goal

pub returns-clause-commands : goal.returns-clause-commands
returns-clause-commands c = top_carries

pub returns-clause-rank : goal.returns-clause-rank
returns-clause-rank c = debt_falls

pub returns-clause-asleep : goal.returns-clause-asleep
returns-clause-asleep c = debt_is_not
