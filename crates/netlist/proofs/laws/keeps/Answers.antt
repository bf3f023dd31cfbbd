use Rattle.netlist.proofs.Growth.{Extends-keeps, Keeps-chain}
use Rattle.netlist.proofs.laws.keeps.Goals as goal

pub returns-clause-extends : goal.returns-clause-extends
returns-clause-extends c = Extends-keeps

pub returns-clause-chain : goal.returns-clause-chain
returns-clause-chain c = Keeps-chain
