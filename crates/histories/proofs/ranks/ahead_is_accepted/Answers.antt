use Rattle.histories.proofs.ranks.Ahead.{ahead_is_accepted}
use Rattle.histories.proofs.ranks.ahead_is_accepted.Goals as goal

pub returns : goal.returns
returns c = ahead_is_accepted
