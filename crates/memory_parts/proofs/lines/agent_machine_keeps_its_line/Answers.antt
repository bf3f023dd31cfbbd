use Rattle.memory_parts.proofs.AgentMachine.{agent_line}
use Rattle.memory_parts.proofs.lines.agent_machine_keeps_its_line.Goals as goal

pub returns : goal.returns
returns c = agent_line c.tags_in_order.ensures
