use Rattle.memory_waits.proofs.straight.RouteStraight.{route_straight}
use Rattle.memory_waits.proofs.straight.routes.route_goes_straight.Goals as goal

pub returns : goal.returns
returns c = λ responses system host agent room up down state end plan legal single below owed machine.
    route_straight system host up down end (c.route_machine_is_a_part.ensures responses system host room up down state end plan legal single below owed machine)
    plan c.base_is_free.ensures legal agent
