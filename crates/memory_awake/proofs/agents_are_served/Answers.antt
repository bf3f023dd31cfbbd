use Rattle.memory_awake.proofs.Final.{served_within}
use Rattle.memory_awake.proofs.agents_are_served.Goals as goal

pub returns : goal.returns
returns c = served_within (record { served = c.wanted_agent_is_served.ensures })
