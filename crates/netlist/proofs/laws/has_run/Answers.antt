use Rattle.netlist.proofs.Existence.{has_run_law}
use Rattle.netlist.proofs.laws.has_run.Goals as goal

pub returns : goal.returns
returns c = has_run_law
