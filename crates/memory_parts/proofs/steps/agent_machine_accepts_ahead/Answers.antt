use Rattle.memory_parts.proofs.AgentAhead.{accepts_ahead}
use Rattle.memory_parts.proofs.steps.agent_machine_accepts_ahead.Goals as goal

pub returns : goal.returns
returns c = λ responses system run agent up state end plan fit legal machine. accepts_ahead responses system run agent up state end machine plan fit legal
