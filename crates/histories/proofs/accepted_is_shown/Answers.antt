use Rattle.histories.specs.Laws.{shown_is_accepted_and_standing}
use Rattle.histories.proofs.accepted_is_shown.Goals as goal

pub returns : goal.returns
returns g c = shown_is_accepted_and_standing
