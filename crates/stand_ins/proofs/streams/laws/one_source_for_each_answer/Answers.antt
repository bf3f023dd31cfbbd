use Rattle.std.proofs.Common.{refl}
use Rattle.stand_ins.proofs.streams.AnswerLemmas.{stand_ins_agree, view_with, stands_in_with}
use Rattle.stand_ins.proofs.streams.laws.one_source_for_each_answer.Goals as goal

pub returns-clause-some : goal.returns-clause-some
returns-clause-some c = λ port script ready end. (view_with port script ready, refl, stands_in_with port script ready end)

pub returns-clause-alone : goal.returns-clause-alone
returns-clause-alone c = stand_ins_agree
