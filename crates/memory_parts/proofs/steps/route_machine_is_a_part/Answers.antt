use Rattle.std.proofs.Common.{arith}
use Rattle.memory_parts.proofs.RouteSteps.{route_part}
use Rattle.memory_parts.proofs.steps.route_machine_is_a_part.Goals as goal

pub returns : goal.returns
returns c = λ responses system host room up down state end plan legal single below owed m.
    route_part responses system host room up down state end m legal single (record { says = plan; base_is_free = c.base_is_free.ensures }) below owed
    ((c.route_machine_keeps_its_line.ensures responses system host room up down state end plan m).commands end (omega arith) legal single below (λ a there k low. owed a there k (omega (arith, low)))).legal
