use Rattle.scenarios.proofs.FirstLemmas.{first_fault}
use Rattle.scenarios.proofs.laws.first_faults_are_first.Goals as goal

pub returns : goal.returns
returns c = first_fault
