use Rattle.memory_parts.proofs.ArbiterMachine.{arbiter_line}
use Rattle.memory_parts.proofs.lines.arbiter_machine_keeps_its_line.Goals as goal

pub returns : goal.returns
returns c = arbiter_line
