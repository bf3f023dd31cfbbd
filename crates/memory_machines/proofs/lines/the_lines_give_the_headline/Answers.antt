use Rattle.memory_machines.proofs.Safe.{safe}
use Rattle.memory_machines.proofs.lines.the_lines_give_the_headline.Goals as goal

pub returns : goal.returns
returns c = safe
