use Rattle.memory_awake.proofs.Final.{default_within}
use Rattle.memory_awake.proofs.default_agent_serves.Goals as goal

pub returns : goal.returns
returns c = default_within (record { served = c.wanted_default_is_served.ensures })
