use Rattle.memory_awake.proofs.packed.Beginnings.{same_packed}
use Rattle.memory_awake.proofs.packed.agree.packed_runs_agree.Goals as goal

pub returns : goal.returns
returns c = λ system one two host agent end same once. same_packed system one two end same host agent once
