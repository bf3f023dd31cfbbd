use Rattle.memory_links.proofs.DrivenRuns.{gather_runs}
use Rattle.memory_links.proofs.runs.gather_runs.Goals as goal

pub returns : goal.returns
returns c = gather_runs
