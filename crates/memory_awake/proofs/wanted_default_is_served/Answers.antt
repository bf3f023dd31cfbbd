use Rattle.memory_awake.proofs.DefaultServed.{default_served}
use Rattle.memory_awake.proofs.wanted_default_is_served.Goals as goal

pub returns : goal.returns
returns c = default_served
