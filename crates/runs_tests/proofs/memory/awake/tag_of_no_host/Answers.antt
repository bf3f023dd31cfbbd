use Rattle.runs_tests.proofs.memory.IdleRuns.{tag_refused}
use Rattle.runs_tests.proofs.memory.awake.tag_of_no_host.Goals as goal

pub returns : goal.returns
returns c = tag_refused
