use Rattle.memory_awake.proofs.Fronts.{at_once}
use Rattle.memory_awake.proofs.words_reach_the_host.Goals as goal

pub returns : goal.returns
returns c = at_once
