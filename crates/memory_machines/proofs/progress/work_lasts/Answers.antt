use Rattle.memory_machines.proofs.Chained.{work_lasts}
use Rattle.memory_machines.proofs.progress.work_lasts.Goals as goal

pub returns : goal.returns
returns c = λ target ports i from size legal k h work still. work_lasts target ports i from size legal k h work still
