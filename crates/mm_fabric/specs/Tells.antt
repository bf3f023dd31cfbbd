-- What the agents of a host tell it.
use Rattle.std.specs.Prelude.{◌≡◌, ℕ, List, [], ◌∷◌, Some, slice_get}
use Rattle.netlist.specs.Netlists.{Netlist}
use Rattle.memory_runs.specs.declared.sides.route.Route.{Route}
use Rattle.mm_route.specs.declared.back.BackNets.{BackNets}
use Rattle.mm_fabric.specs.declared.parts.Seat.{Seat}
use Rattle.mm_fabric.specs.declared.parts.AgentPart.{AgentPart}
use Rattle.mm_fabric.specs.Askers.{IsTold}
use Rattle.mm_fabric.specs.Fabrics.{seat_of}

-- the host has this seat at the agent of the route
pub record HasSeat (host : ℕ) (parts : List AgentPart) (route : Route) (seat : Seat) : Type 0 where
  pub part : AgentPart
  pub at : slice_get parts route.agent ≡ Some part
  pub leads : seat_of host part.seats ≡ Some seat

-- what comes back of a route is what the links of the host's seat tell
pub record IsBackFor (host : ℕ) (parts : List AgentPart) (route : Route) (back : BackNets) : Type 0 where
  pub seat : Seat
  pub has : HasSeat host parts route seat
  pub is : back ≡ seat.told

-- the host has a seat at the agent of each route, whose links tell words of so many bits
pub record CanTell (netlist : Netlist) (bits host : ℕ) (parts : List AgentPart) (route : Route) : Type 0 where
  pub seat : Seat
  pub has : HasSeat host parts route seat
  pub told : IsTold netlist bits seat

abbrev pub AllCanTell : Netlist → ℕ → ℕ → List AgentPart → List Route → Type 0
AllCanTell netlist bits host parts [] = Unit {0}
AllCanTell netlist bits host parts (route ∷ routes) =
    CanTell netlist bits host parts route × AllCanTell netlist bits host parts routes

abbrev pub AllHaveSeats : ℕ → List AgentPart → List Route → Type 0
AllHaveSeats host parts [] = Unit {0}
AllHaveSeats host parts (route ∷ routes) = ((seat : Seat) × HasSeat host parts route seat) × AllHaveSeats host parts routes
