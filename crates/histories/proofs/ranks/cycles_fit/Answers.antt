use Rattle.histories.proofs.ranks.Sums.{cycles_fit}
use Rattle.histories.proofs.ranks.cycles_fit.Goals as goal

pub returns : goal.returns
returns c = cycles_fit
