use Rattle.histories.proofs.ranks.Served.{wanted_is_served}
use Rattle.histories.proofs.ranks.wanted_is_served.Goals as goal

pub returns : goal.returns
returns c = wanted_is_served
