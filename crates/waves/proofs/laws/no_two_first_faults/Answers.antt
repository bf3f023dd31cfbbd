use Rattle.waves.proofs.LawLemmas.{one_fault}
use Rattle.waves.proofs.laws.no_two_first_faults.Goals as goal

pub returns : goal.returns
returns c = one_fault
