use Rattle.memory_machines.proofs.WireRank.{wire_falls}
use Rattle.memory_machines.proofs.wires.wire_falls.Goals as goal

pub returns : goal.returns
returns c = wire_falls
