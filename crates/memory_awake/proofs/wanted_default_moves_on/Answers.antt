use Rattle.memory_awake.proofs.HostDefault.{default_moves}
use Rattle.memory_awake.proofs.wanted_default_moves_on.Goals as goal

pub returns : goal.returns
returns c = λ system run host size end two legal proper front from number fits wanted. default_moves system run host end legal proper front size from number two fits wanted
