use Rattle.st_format.proofs.ClearBeat.{beat_clear}
use Rattle.st_format.proofs.ClearNarrow.{narrow_clear}
use Rattle.st_format.proofs.ClearWiden.{widen_clear}
use Rattle.st_format.proofs.ClearFull.{full_clear}
use Rattle.st_format.proofs.laws.empty_symbols_are_clear.Goals as goal

pub returns-clause-clear : goal.returns-clause-clear
returns-clause-clear c = beat_clear c.clear_is_a_stage.ensures.clears

pub returns-clause-narrow : goal.returns-clause-narrow
returns-clause-narrow c = narrow_clear c.parts_of_words.ensures

pub returns-clause-widen : goal.returns-clause-widen
returns-clause-widen c = widen_clear

pub returns-clause-full : goal.returns-clause-full
returns-clause-full c = full_clear
