use Rattle.memory_links.proofs.DrivenRuns.{select_runs}
use Rattle.memory_links.proofs.runs.select_runs.Goals as goal

pub returns : goal.returns
returns c = select_runs
