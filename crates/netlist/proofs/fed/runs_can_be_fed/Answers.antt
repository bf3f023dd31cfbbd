use Rattle.netlist.proofs.fed.Feeding.{runs_go_on}
use Rattle.netlist.proofs.fed.runs_can_be_fed.Goals as goal

pub returns : goal.returns
returns c = runs_go_on c.goes_on.ensures c.has_valuation.ensures
