use Rattle.memory_machines.proofs.Stage.{taken_is}
use Rattle.memory_machines.proofs.machines.transfers_of_beats.Goals as goal

pub returns : goal.returns
returns c = taken_is
