use Rattle.memory_runs.specs.Laws.{accepted_of_legal}
use Rattle.memory_runs.proofs.accepted_is_front.Goals as goal

pub returns : goal.returns
returns c = accepted_of_legal
