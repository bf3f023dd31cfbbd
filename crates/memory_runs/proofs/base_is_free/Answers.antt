use Rattle.memory_runs.proofs.Bases.{no_base_needed}
use Rattle.memory_runs.proofs.base_is_free.Goals as goal

pub returns : goal.returns
returns c = no_base_needed
