use Rattle.scenarios.proofs.LawLemmas.{one_fault}
use Rattle.scenarios.proofs.laws.no_two_first_faults.Goals as goal

pub returns : goal.returns
returns c = one_fault
