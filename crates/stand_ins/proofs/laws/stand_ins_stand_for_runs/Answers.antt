use Rattle.stand_ins.proofs.Standing.{stands_next, shows, takes}
use Rattle.stand_ins.proofs.laws.stand_ins_stand_for_runs.Goals as goal

pub returns-clause-goes_on : goal.returns-clause-goes_on
returns-clause-goes_on c = λ script agent after view stands waits behind. stands_next script agent view stands after waits behind

pub returns-clause-shows : goal.returns-clause-shows
returns-clause-shows c = shows

pub returns-clause-takes : goal.returns-clause-takes
returns-clause-takes c = takes
