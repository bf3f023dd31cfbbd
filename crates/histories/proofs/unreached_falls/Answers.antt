use Rattle.histories.specs.Laws.{unreached_falls, unreached_length}
use Rattle.histories.proofs.unreached_falls.Goals as goal

pub returns-clause-falls : goal.returns-clause-falls
returns-clause-falls c = unreached_falls

pub returns-clause-most : goal.returns-clause-most
returns-clause-most c = unreached_length
