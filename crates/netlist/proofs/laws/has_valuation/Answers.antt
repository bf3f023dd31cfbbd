use Rattle.netlist.proofs.Valuations.{has_valuation_law}
use Rattle.netlist.proofs.laws.has_valuation.Goals as goal

pub returns : goal.returns
returns c = has_valuation_law
