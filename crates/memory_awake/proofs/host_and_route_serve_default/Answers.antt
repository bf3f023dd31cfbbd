use Rattle.memory_awake.proofs.Defaults.{default_front}
use Rattle.memory_awake.proofs.host_and_route_serve_default.Goals as goal

pub returns : goal.returns
returns c = default_front
