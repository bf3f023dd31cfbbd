use Rattle.memory_waits.proofs.straight.RouteStraight.{route_prompt}
use Rattle.memory_waits.proofs.straight.routes.route_is_prompt.Goals as goal

pub returns : goal.returns
returns c = λ responses system host agent room up down state end fits plan legal single below owed machine.
    let part = c.route_machine_is_a_part.ensures responses system host room up down state end plan legal single below owed machine in
    route_prompt system host up down end part plan c.base_is_free.ensures legal part.legal agent fits
