use Rattle.memory_links.proofs.DrivenRuns.{drop_runs}
use Rattle.memory_links.proofs.runs.drop_runs.Goals as goal

pub returns : goal.returns
returns c = drop_runs
