use Rattle.runs_tests.proofs.memory.DefaultTraces.{default_is_returned, odd_is_not, strayed_is_not}
use Rattle.runs_tests.proofs.memory.read_in_no_footprint.Goals as goal

pub returns-clause-returned : goal.returns-clause-returned
returns-clause-returned c = default_is_returned

pub returns-clause-odd_word : goal.returns-clause-odd_word
returns-clause-odd_word c = odd_is_not

pub returns-clause-strayed : goal.returns-clause-strayed
returns-clause-strayed c = strayed_is_not
