use Rattle.scenarios.proofs.Reading.{file_fits}
use Rattle.scenarios.proofs.laws.stated_scenarios_fit.Goals as goal

pub returns : goal.returns
returns c = file_fits
