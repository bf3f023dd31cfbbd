use Rattle.memory_links.proofs.DrivenRuns.{split_runs}
use Rattle.memory_links.proofs.runs.split_runs.Goals as goal

pub returns : goal.returns
returns c = split_runs
