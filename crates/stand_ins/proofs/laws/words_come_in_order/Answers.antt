use Rattle.stand_ins.proofs.Answered.{in_order}
use Rattle.stand_ins.proofs.laws.words_come_in_order.Goals as goal

pub returns : goal.returns
returns c = λ port script view end late stand_in legal bounded. in_order port script view end late stand_in legal bounded
