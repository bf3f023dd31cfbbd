use Rattle.memory_machines.proofs.Boundaries.{settled}
use Rattle.memory_machines.proofs.settled.lines_settle.Goals as goal

pub returns : goal.returns
returns c = settled
