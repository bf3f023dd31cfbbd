use Rattle.netlist.proofs.Valuations.{agree_law}
use Rattle.netlist.proofs.laws.agree.Goals as goal

pub returns : goal.returns
returns c = agree_law
