use Rattle.memory_parts.proofs.HostAnswers.{host_line}
use Rattle.memory_parts.proofs.lines.host_machine_keeps_its_line.Goals as goal

pub returns : goal.returns
returns c = host_line
