use Rattle.runs_tests.proofs.memory.WaitingKept.{early_is_not}
use Rattle.runs_tests.proofs.memory.awake.read_accepted_early.Goals as goal

pub returns : goal.returns
returns c = early_is_not
