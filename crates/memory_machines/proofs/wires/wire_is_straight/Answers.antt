use Rattle.memory_machines.proofs.WireStraight.{wire_is_straight, wire_is_prompt}
use Rattle.memory_machines.proofs.wires.wire_is_straight.Goals as goal

pub returns-clause-straight : goal.returns-clause-straight
returns-clause-straight c = wire_is_straight

pub returns-clause-prompt : goal.returns-clause-prompt
returns-clause-prompt c = wire_is_prompt
