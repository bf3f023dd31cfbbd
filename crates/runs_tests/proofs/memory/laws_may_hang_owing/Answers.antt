use Rattle.runs_tests.proofs.memory.OwingRun.{top_carries, bottom_carries, upper_falls, lower_falls, owing_is_not}
use Rattle.runs_tests.proofs.memory.laws_may_hang_owing.Goals as goal

pub returns-clause-upper : goal.returns-clause-upper
returns-clause-upper c = top_carries

pub returns-clause-lower : goal.returns-clause-lower
returns-clause-lower c = bottom_carries

pub returns-clause-upper_rank : goal.returns-clause-upper_rank
returns-clause-upper_rank c = upper_falls

pub returns-clause-lower_rank : goal.returns-clause-lower_rank
returns-clause-lower_rank c = lower_falls

pub returns-clause-asleep : goal.returns-clause-asleep
returns-clause-asleep c = owing_is_not
