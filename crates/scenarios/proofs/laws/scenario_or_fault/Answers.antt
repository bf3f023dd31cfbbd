use Rattle.scenarios.proofs.LawLemmas.{one_or_other}
use Rattle.scenarios.proofs.laws.scenario_or_fault.Goals as goal

pub returns : goal.returns
returns c = one_or_other
