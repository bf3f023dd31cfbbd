use Rattle.stand_ins.proofs.Answered.{all_answered}
use Rattle.stand_ins.proofs.laws.borne_reads_are_answered.Goals as goal

pub returns : goal.returns
returns c = λ port script view end late stand_in legal bounded. all_answered port script view end late stand_in legal bounded
