use Rattle.histories.proofs.ranks.Falling.{active_is_short}
use Rattle.histories.proofs.ranks.active_is_short.Goals as goal

pub returns : goal.returns
returns c = active_is_short
