use Rattle.memory_machines.proofs.Wire.{wire_is_link}
use Rattle.memory_machines.proofs.wires.wire_is_a_link.Goals as goal

pub returns : goal.returns
returns c = wire_is_link
