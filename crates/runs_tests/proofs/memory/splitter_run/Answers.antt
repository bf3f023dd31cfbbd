use Rattle.runs_tests.proofs.memory.SplitterRun.{splitter_run}
use Rattle.runs_tests.proofs.memory.splitter_run.Goals as goal

pub returns : goal.returns
returns c = splitter_run
