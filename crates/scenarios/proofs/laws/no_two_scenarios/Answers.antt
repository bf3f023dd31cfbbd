use Rattle.scenarios.proofs.LawLemmas.{one_scenario}
use Rattle.scenarios.proofs.laws.no_two_scenarios.Goals as goal

pub returns : goal.returns
returns c = one_scenario
