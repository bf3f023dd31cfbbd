use Rattle.runs_tests.proofs.memory.AheadKept.{held_is_not}
use Rattle.runs_tests.proofs.memory.awake.read_held_back.Goals as goal

pub returns : goal.returns
returns c = held_is_not
