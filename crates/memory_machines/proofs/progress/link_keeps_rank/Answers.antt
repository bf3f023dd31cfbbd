use Rattle.memory_machines.proofs.Chained.{link_keeps_rank}
use Rattle.memory_machines.proofs.progress.link_keeps_rank.Goals as goal

pub returns : goal.returns
returns c = λ target ports i rank largest from size falls. link_keeps_rank target ports i rank largest from size falls.legal falls.falls
