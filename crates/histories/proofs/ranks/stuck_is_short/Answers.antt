use Rattle.histories.proofs.ranks.Served.{stuck_is_short}
use Rattle.histories.proofs.ranks.stuck_is_short.Goals as goal

pub returns : goal.returns
returns c = stuck_is_short
