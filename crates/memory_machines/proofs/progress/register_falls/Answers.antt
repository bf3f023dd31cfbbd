use Rattle.memory_machines.proofs.OnePlace.{register_falls}
use Rattle.memory_machines.proofs.progress.register_falls.Goals as goal

pub returns : goal.returns
returns c = register_falls
