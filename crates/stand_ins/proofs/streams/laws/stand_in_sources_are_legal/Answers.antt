use Rattle.stand_ins.proofs.streams.LegalLemmas.{stand_ins_are_legal}
use Rattle.stand_ins.proofs.streams.laws.stand_in_sources_are_legal.Goals as goal

pub returns : goal.returns
returns c = stand_ins_are_legal
