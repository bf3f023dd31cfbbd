use Rattle.histories.proofs.ranks.Robin.{asking_is_passed_by_few}
use Rattle.histories.proofs.ranks.asking_is_passed_by_few.Goals as goal

pub returns : goal.returns
returns c = asking_is_passed_by_few
