-- A route to one agent alone that has the whole range of its host, after both calls: it is a wire.
use Rattle.std.specs.Prelude.{◌≡◌, List, [], ◌∷◌}
use Rattle.netlist.specs.Nets.{NetValue}
use Rattle.netlist.specs.Netlists.{Netlist}
use Rattle.command_nets.specs.declared.nets.CommandNets.{CommandNets}
use Rattle.command_nets.specs.declared.nets.AnswerNets.{AnswerNets}
use Rattle.mm_route.specs.declared.back.BackNets.{BackNets}
use Rattle.mm_route.specs.declared.route.HeldRoute.{HeldRoute}
use Rattle.mm_route.specs.declared.route.HeldRoute.TheVariants.{Wired}
use Rattle.mm_route.specs.declared.wire.HeldWire.{HeldWire}
use Rattle.mm_route.specs.Wire.{IsLoneRoute}

-- the route is a wire between its only command, and what comes back from its only agent
pub record RunsAsWire (netlist : Netlist) (held : HeldRoute) (command : CommandNets) (commands : List CommandNets)
    (backs : List BackNets) (wait : NetValue) (answer : AnswerNets) : Type 0 where
  pub wire : HeldWire
  pub held_is : held ≡ Wired wire
  pub below : CommandNets
  pub only_command : commands ≡ below ∷ []
  pub back : BackNets
  pub only_back : backs ≡ back ∷ []
  pub lone : IsLoneRoute netlist wire command below back wait answer
