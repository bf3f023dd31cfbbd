use Rattle.histories.proofs.ranks.Served.{path_is_short}
use Rattle.histories.proofs.ranks.path_is_short.Goals as goal

pub returns : goal.returns
returns c = path_is_short
