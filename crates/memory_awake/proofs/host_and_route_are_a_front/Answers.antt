use Rattle.memory_awake.proofs.Fronts.{front}
use Rattle.memory_awake.proofs.host_and_route_are_a_front.Goals as goal

pub returns : goal.returns
returns c = front
