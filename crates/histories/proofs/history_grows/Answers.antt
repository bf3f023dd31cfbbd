use Rattle.histories.specs.Laws.{before_prefix}
use Rattle.histories.proofs.history_grows.Goals as goal

pub returns-clause-grows : goal.returns-clause-grows
returns-clause-grows g c = before_prefix
