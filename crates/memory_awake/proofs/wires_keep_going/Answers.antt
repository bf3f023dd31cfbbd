use Rattle.memory_awake.proofs.WireGoes.{wire_goes}
use Rattle.memory_awake.proofs.wires_keep_going.Goals as goal

pub returns : goal.returns
returns c = wire_goes c.wire_falls.ensures
