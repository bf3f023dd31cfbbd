use Rattle.std.proofs.Common.{refl}
use Rattle.memory_runs.specs.Views.Responses.{AreCodes}
use Rattle.memory_parts.specs.RouteRun.{route_registers, route_state}
use Rattle.memory_waits.specs.Examples.{above_route, below_route, even_pair, routed_ahead}
use Rattle.memory_waits.proofs.straight.SmallRuns.{even_plan, odd_is_not, routed_debt, routed_legal, routed_owed, routed_single}
use Rattle.memory_waits.proofs.straight.examples.straight_routes.Goals as goal

pub returns-clause-ahead : goal.returns-clause-ahead
returns-clause-ahead c =
    c.route_goes_straight.ensures AreCodes even_pair 0 0 8 (above_route even_pair routed_ahead) (below_route even_pair routed_ahead) (route_state (route_registers AreCodes even_pair 0 routed_ahead)) 3
    even_plan routed_legal routed_single routed_debt routed_owed (c.route_machine_runs.ensures AreCodes even_pair 0 8 routed_ahead 3)

pub returns-clause-prompt : goal.returns-clause-prompt
returns-clause-prompt c =
    c.route_is_prompt.ensures AreCodes even_pair 0 0 8 (above_route even_pair routed_ahead) (below_route even_pair routed_ahead) (route_state (route_registers AreCodes even_pair 0 routed_ahead)) 3
    refl even_plan routed_legal routed_single routed_debt routed_owed (c.route_machine_runs.ensures AreCodes even_pair 0 8 routed_ahead 3)

pub returns-clause-asked : goal.returns-clause-asked
returns-clause-asked c = refl

pub returns-clause-odd : goal.returns-clause-odd
returns-clause-odd c = odd_is_not
