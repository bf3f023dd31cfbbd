use Rattle.netlist.proofs.EndlessRuns.{goes_on_law}
use Rattle.netlist.proofs.laws.goes_on.Goals as goal

pub returns : goal.returns
returns c = goes_on_law
