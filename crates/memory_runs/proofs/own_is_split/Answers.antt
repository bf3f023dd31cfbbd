use Rattle.memory_runs.proofs.Together.{own_is_split}
use Rattle.memory_runs.proofs.own_is_split.Goals as goal

pub returns : goal.returns
returns c = own_is_split
