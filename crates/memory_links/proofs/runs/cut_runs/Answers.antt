use Rattle.memory_links.proofs.DrivenRuns.{cut_runs}
use Rattle.memory_links.proofs.runs.cut_runs.Goals as goal

pub returns : goal.returns
returns c = cut_runs
