use Rattle.stand_ins.proofs.streams.KeepingLemmas.{beat_kept_is_shown, keeping_goes_on}
use Rattle.stand_ins.proofs.streams.laws.sources_keep_enough.Goals as goal

pub returns-clause-shows : goal.returns-clause-shows
returns-clause-shows c = beat_kept_is_shown

pub returns-clause-goes_on : goal.returns-clause-goes_on
returns-clause-goes_on c = keeping_goes_on
