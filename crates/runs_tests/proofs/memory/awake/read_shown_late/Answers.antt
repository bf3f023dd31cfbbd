use Rattle.runs_tests.proofs.memory.AheadKept.{one_by_one_is_not}
use Rattle.runs_tests.proofs.memory.awake.read_shown_late.Goals as goal

pub returns : goal.returns
returns c = one_by_one_is_not
