use Rattle.memory_machines.proofs.WireMoves.{wire_moves}
use Rattle.memory_machines.proofs.wires.wire_keeps_moving.Goals as goal

pub returns : goal.returns
returns c = wire_moves
