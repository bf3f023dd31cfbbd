use Rattle.memory_awake.proofs.Whole.{awake}
use Rattle.memory_awake.proofs.systems_are_awake.Goals as goal

pub returns : goal.returns
returns c = awake (record { agents = c.agents_are_served.ensures; default = c.default_agent_serves.ensures; few = c.moves_are_few.ensures; fit = c.modest_parts_fit.ensures })
