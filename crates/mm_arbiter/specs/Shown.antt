-- The commands of the askers, and the one that is shown below.
use Rattle.std.specs.Prelude.{◌≡◌, ℕ, ◌-◌, ◌≤◌, Bool, List, [], ◌∷◌, map, get_or}
use Rattle.netlist.specs.Netlists.{Netlist}
use Rattle.netlist.specs.Runs.{Cycle}
use Rattle.netlist.specs.Longer.{Extends}
use Rattle.net_parts.specs.Groups.{group_widths}
use Rattle.memory_machines.specs.Machines.{Raw}
use Rattle.command_nets.specs.declared.nets.CommandNets.{CommandNets}
use Rattle.command_nets.specs.Nets.{AreCommandNets, raw_in, group_of, ShowSame}
use Rattle.command_nets.specs.Groups.{nothing_shown, is_shown, command_lasts}
use Rattle.mm_arbiter.specs.declared.asker.Asker.{Asker}
use Rattle.mm_arbiter.specs.declared.pick.SeatNets.{SeatNets}

-- each has a share, and 63 at most
abbrev pub AreAskers : List Asker → Type 0
AreAskers [] = Unit {0}
AreAskers (asker ∷ later) = ((1 ≤ asker.shares) × (asker.shares ≤ 63)) × AreAskers later

-- each command is one of this netlist
abbrev pub AreCommands : Netlist → List CommandNets → Type 0
AreCommands netlist [] = Unit {0}
AreCommands netlist (command ∷ later) = AreCommandNets netlist command × AreCommands netlist later

-- the nets of each have these widths
abbrev pub HaveWidths : List ℕ → List CommandNets → Type 0
HaveWidths widths [] = Unit {0}
HaveWidths widths (command ∷ later) = (group_widths (group_of command) ≡ widths) × HaveWidths widths later

-- the nets of all commands have the same widths
pub record AreAlike (commands : List CommandNets) : Type 0 where
  pub widths : List ℕ
  pub each : HaveWidths widths commands

-- the beats that they show, and whether they show one
abbrev pub raws_in : Cycle → List CommandNets → List Raw
raws_in cycle commands = map (λ (command : CommandNets). raw_in cycle command) commands

abbrev pub asks_in : Cycle → List CommandNets → List Bool
asks_in cycle commands = map (λ (command : CommandNets). is_shown (raw_in cycle command)) commands

-- the shares that each has left once a command of its has begun
abbrev pub spares_in : List Asker → List ℕ
spares_in askers = map (λ (asker : Asker). asker.shares - 1) askers

-- the nets show what the asker of seat k shows
pub record IsSeatOf (cycle : Cycle) (seat : SeatNets) (k : ℕ) (askers : List Asker) (commands : List CommandNets) : Type 0 where
  pub command : raw_in cycle seat.command ≡ get_or (raws_in cycle commands) k nothing_shown
  pub spare : cycle.net seat.spare.number ≡ get_or (spares_in askers) k 0

-- these commands show the same in both cycles
abbrev pub ShowAllSame : List CommandNets → Cycle → Cycle → Type 0
ShowAllSame [] one other = Unit {0}
ShowAllSame (command ∷ later) one other = ShowSame command one other × ShowAllSame later one other

-- ---- laws. No contract reads a proof of these

pub commands_last : (a b : Netlist) (commands : List CommandNets) → Extends a b → AreCommands a commands → AreCommands b commands
commands_last a b [] e h = tt
commands_last a b (command ∷ later) e h = (command_lasts a b command e h.0, commands_last a b later e h.1)
