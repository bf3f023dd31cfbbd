use Rattle.memory_parts.proofs.RouteCodes.{route_line}
use Rattle.memory_parts.proofs.lines.route_machine_keeps_its_line.Goals as goal

pub returns : goal.returns
returns c = λ responses system host room up down state end plan machine. route_line responses system host room up down state end (record { says = plan; base_is_free = c.base_is_free.ensures }) machine
