use Rattle.memory_awake.proofs.Wanted.{served}
use Rattle.memory_awake.proofs.wanted_agent_is_served.Goals as goal

pub returns : goal.returns
returns c = served (record { work = c.work_is_short.ensures })
