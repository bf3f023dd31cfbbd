use Rattle.memory_machines.proofs.Chained.{chain_is_short}
use Rattle.memory_machines.proofs.progress.chain_is_short.Goals as goal

pub returns : goal.returns
returns c = λ target ports rank largest few n from size stuck. chain_is_short c.path_is_short.ensures target ports rank largest few n from size stuck.ranks stuck.unhindered
