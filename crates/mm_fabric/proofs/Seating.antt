-- The seats of an agent: the askers, their commands and what comes back, place by place.
use Rattle.std.proofs.Common.{◌≡◌, ℕ, List, take}
use Rattle.command_nets.specs.declared.nets.CommandNets.{CommandNets}
use Rattle.mm_arbiter.specs.declared.asker.Asker.{Asker}
use Rattle.mm_arbiter.specs.declared.back.BackNets.{BackNets}
use Rattle.mm_fabric.specs.declared.parts.Seat.{Seat}
use Rattle.mm_fabric.specs.Parts.{askers_of, commands_above, backs_above}

-- so many seats are made
pub record AreSeatsSoFar (askers : List Asker) (commands : List CommandNets) (backs : List BackNets) (seats : List Seat) (count : ℕ) : Type 0 where
  pub askers_are : askers_of seats ≡ take count askers
  pub commands_are : commands_above seats ≡ take count commands
  pub backs_are : backs_above seats ≡ take count backs
