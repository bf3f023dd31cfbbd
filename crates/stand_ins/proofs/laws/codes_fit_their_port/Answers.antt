use Rattle.stand_ins.proofs.CodeLemmas.{few, none}
use Rattle.stand_ins.proofs.laws.codes_fit_their_port.Goals as goal

pub returns-clause-few : goal.returns-clause-few
returns-clause-few c = few

pub returns-clause-none : goal.returns-clause-none
returns-clause-none c = none
