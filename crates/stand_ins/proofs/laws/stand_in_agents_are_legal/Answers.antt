use Rattle.stand_ins.proofs.Legality.{legal}
use Rattle.stand_ins.proofs.laws.stand_in_agents_are_legal.Goals as goal

pub returns : goal.returns
returns c = legal
