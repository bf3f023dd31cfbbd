use Rattle.scenarios.proofs.LawLemmas.{not_both}
use Rattle.scenarios.proofs.laws.never_both.Goals as goal

pub returns : goal.returns
returns c = not_both
