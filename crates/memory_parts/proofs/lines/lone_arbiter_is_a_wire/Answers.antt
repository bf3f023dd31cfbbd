use Rattle.memory_parts.proofs.LoneArbiter.{lone_arbiter}
use Rattle.memory_parts.proofs.lines.lone_arbiter_is_a_wire.Goals as goal

pub returns : goal.returns
returns c = λ seat hosts up down end wire. lone_arbiter seat hosts up down end wire
