use Rattle.waves.proofs.LawLemmas.{no_fault}
use Rattle.waves.proofs.laws.never_both.Goals as goal

pub returns : goal.returns
returns c = no_fault
