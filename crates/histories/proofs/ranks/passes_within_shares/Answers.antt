use Rattle.histories.proofs.ranks.Sums.{pass_within_shares}
use Rattle.histories.proofs.ranks.passes_within_shares.Goals as goal

pub returns : goal.returns
returns c = pass_within_shares
