-- The ways of a host: to the agents of its routes, each with its command and what comes back.
use Rattle.std.specs.Prelude.{◌≡◌, List, map}
use Rattle.memory_runs.specs.declared.sides.route.Route.{Route}
use Rattle.command_nets.specs.declared.nets.CommandNets.{CommandNets}
use Rattle.mm_route.specs.declared.back.BackNets.{BackNets}
use Rattle.mm_fabric.specs.declared.parts.Way.{Way}
use Rattle.mm_fabric.specs.Parts.{commands_below, backs_below}

-- a way for each route, in their order
pub record AreWaysOf (routes : List Route) (commands : List CommandNets) (backs : List BackNets) (ways : List Way) : Type 0 where
  pub agents : map (λ (w : Way). w.agent) ways ≡ map (λ (r : Route). r.agent) routes
  pub commands_are : commands_below ways ≡ commands
  pub backs_are : backs_below ways ≡ backs
