use Rattle.memory_machines.proofs.Select.{beat_is_selected}
use Rattle.memory_machines.proofs.machines.beat_is_selected.Goals as goal

pub returns : goal.returns
returns c = λ narrow wide target span may beat fits. beat_is_selected narrow wide target span may.some may.same may.enables beat fits.lanes fits.few
