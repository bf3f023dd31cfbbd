use Rattle.memory_links.proofs.DrivenRuns.{pipe_runs}
use Rattle.memory_links.proofs.runs.pipe_runs.Goals as goal

pub returns : goal.returns
returns c = pipe_runs
