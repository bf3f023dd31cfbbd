use Rattle.runs_tests.proofs.memory.DefaultTraces.{behind_keeps, behind_is_returned, past_keeps_not, past_is_returned, swapped_is_not, default_first_is_not, around_keeps_not}
use Rattle.runs_tests.proofs.memory.reads_beside_default.Goals as goal

pub returns-clause-right : goal.returns-clause-right
returns-clause-right c = behind_keeps

pub returns-clause-right_words : goal.returns-clause-right_words
returns-clause-right_words c = behind_is_returned

pub returns-clause-overtakes : goal.returns-clause-overtakes
returns-clause-overtakes c = past_keeps_not

pub returns-clause-by_limiter_alone : goal.returns-clause-by_limiter_alone
returns-clause-by_limiter_alone c = past_is_returned

pub returns-clause-swapped : goal.returns-clause-swapped
returns-clause-swapped c = swapped_is_not

pub returns-clause-default_overtakes : goal.returns-clause-default_overtakes
returns-clause-default_overtakes c = default_first_is_not

pub returns-clause-around : goal.returns-clause-around
returns-clause-around c = around_keeps_not
