-- What the first call leaves in a netlist: the seat that is chosen, the command below, and what the registers take.
use Rattle.std.specs.Prelude.{◌≡◌, ℕ, ◌-◌, ◌^◌, ◌<◌, true, false, List, length, get_or, if◌then◌else◌, Option, Some, None, is_some}
use Rattle.histories.specs.History.{is_raised}
use Rattle.netlist.specs.Nets.{NetValue}
use Rattle.netlist.specs.Netlists.{Netlist}
use Rattle.netlist.specs.Runs.{Cycle, Always}
use Rattle.netlist.specs.Longer.{Extends}
use Rattle.net_parts.specs.Nets.{IsNetOfWidth, IsBit}
use Rattle.net_parts.specs.Groups.{InGroup}
use Rattle.net_parts.specs.Laws.{net_lasts}
use Rattle.command_nets.specs.declared.nets.CommandNets.{CommandNets}
use Rattle.command_nets.specs.Nets.{raw_in, ShowSame}
use Rattle.command_nets.specs.Groups.{nothing_shown, is_shown}
use Rattle.mm_arbiter.specs.declared.asker.Asker.{Asker}
use Rattle.mm_arbiter.specs.declared.pick.SeatNets.{SeatNets}
use Rattle.mm_arbiter.specs.declared.turns.TurnNets.{TurnNets}
use Rattle.mm_arbiter.specs.declared.choice.ChosenNets.{ChosenNets}
use Rattle.mm_arbiter.specs.declared.rounds.RoundNets.{RoundNets}
use Rattle.mm_arbiter.specs.Asks.{seat_bit, stays_on, chosen_seat, holder_after, left_after}
use Rattle.mm_arbiter.specs.Depends.{AnyTwo}
use Rattle.mm_arbiter.specs.Turns.{AreTurnNets, HoldSame, turns_of, turn_nets_last}
use Rattle.mm_arbiter.specs.Shown.{asks_in, raws_in, spares_in, ShowAllSame}

-- the seat that is chosen in a cycle in which seat k holds the turn
abbrev pub seat_in : Cycle → TurnNets → List CommandNets → ℕ → Option ℕ
seat_in cycle turns commands k =
    chosen_seat (is_raised (cycle.net turns.inside.number)) k (cycle.net turns.left.number) (asks_in cycle commands)

-- these nets are of this netlist, for so many seats
pub record AreChosenNets (netlist : Netlist) (chosen : ChosenNets) (count : ℕ) : Type 0 where
  pub seat : IsNetOfWidth netlist chosen.seat count
  pub some : IsBit netlist chosen.some
  pub stays : IsBit netlist chosen.stays

-- they say which seat is chosen, whether one is, and whether the holder stays on
pub record AreChosen (cycle : Cycle) (turns : TurnNets) (chosen : ChosenNets) (commands : List CommandNets) (k : ℕ) : Type 0 where
  pub seat : cycle.net chosen.seat.number ≡ seat_bit (seat_in cycle turns commands k)
  pub some : is_raised (cycle.net chosen.some.number) ≡ is_some (seat_in cycle turns commands k)
  pub stays : is_raised (cycle.net chosen.stays.number) ≡ stays_on k (cycle.net turns.left.number) (asks_in cycle commands)

-- the nets show what this asker shows, where a seat is chosen
pub record ShowsSeat (cycle : Cycle) (some : NetValue) (made : SeatNets) (askers : List Asker) (commands : List CommandNets)
    (seat : ℕ) : Type 0 where
  pub command : is_raised (cycle.net some.number) ≡ true
      → raw_in cycle made.command ≡ get_or (raws_in cycle commands) seat nothing_shown
  pub spare : cycle.net made.spare.number ≡ get_or (spares_in askers) seat 0

abbrev pub HidesAll : Cycle → NetValue → CommandNets → Type 0
HidesAll cycle some command = is_raised (cycle.net some.number) ≡ false → is_shown (raw_in cycle command) ≡ false

-- what the registers of the holder and of its shares take, where `stays` means that some are left
pub record IsNextTurn (cycle : Cycle) (turns : TurnNets) (chosen : ChosenNets)
    (spare next_holder next_left : NetValue) : Type 0 where
  pub holder : cycle.net next_holder.number
      ≡ (if is_raised (cycle.net chosen.some.number) then cycle.net chosen.seat.number else cycle.net turns.holder.number)
  pub left : (is_raised (cycle.net chosen.stays.number) ≡ true → 0 < cycle.net turns.left.number)
      → cycle.net next_left.number
      ≡ (if is_raised (cycle.net turns.inside.number) then cycle.net turns.left.number
      else (if is_raised (cycle.net chosen.stays.number) then cycle.net turns.left.number - 1
      else (if is_raised (cycle.net chosen.some.number) then cycle.net spare.number else 0)))

-- the numbers of the registers
abbrev pub owned_by : RoundNets → ℕ → Type 0
owned_by round n = InGroup (turns_of round.turns) n

-- between the calls: the nets stand
pub record RoundKeeps (round : RoundNets) (count : ℕ) (netlist : Netlist) : Type 0 where
  pub turns : AreTurnNets netlist round.turns count
  pub chosen : AreChosenNets netlist round.chosen count
  pub holder : IsNetOfWidth netlist round.holder count
  pub left : IsNetOfWidth netlist round.left 6

-- a cycle in which seat k holds the turn: who is chosen, what is shown below, and who holds the turn next with how many shares
pub record IsTurn (cycle : Cycle) (askers : List Asker) (commands : List CommandNets) (command : CommandNets) (round : RoundNets)
    (k : ℕ) : Type 0 where
  pub chosen : AreChosen cycle round.turns round.chosen commands k
  pub shown : (seat : ℕ) → seat_in cycle round.turns commands k ≡ Some seat
      → raw_in cycle command ≡ get_or (raws_in cycle commands) seat nothing_shown
  pub hidden : seat_in cycle round.turns commands k ≡ None → is_shown (raw_in cycle command) ≡ false
  pub holder : cycle.net round.holder.number ≡ 2 ^ holder_after k (seat_in cycle round.turns commands k)
  pub left : cycle.net round.left.number
      ≡ left_after (is_raised (cycle.net round.turns.inside.number)) k (cycle.net round.turns.left.number)
      (asks_in cycle commands)
      (spares_in askers)

-- so it is in each cycle
abbrev pub RoundForward : List Asker → List CommandNets → CommandNets → RoundNets → Netlist → Type 0
RoundForward askers commands command round netlist =
    Always netlist (λ cycle. (k : ℕ) → k < length commands → cycle.net round.turns.holder.number ≡ 2 ^ k
    → IsTurn cycle askers commands command round k)

-- what is shown below depends on the registers and on the commands alone, in any state
abbrev pub ShowsByTurns : List CommandNets → CommandNets → TurnNets → Netlist → Type 0
ShowsByTurns commands command turns netlist =
    AnyTwo netlist (λ one other. HoldSame turns one other → ShowAllSame commands one other → ShowSame command one other)

-- ---- laws. No contract reads a proof of these

pub chosen_last : (a b : Netlist) (chosen : ChosenNets) (count : ℕ) → Extends a b → AreChosenNets a chosen count
    → AreChosenNets b chosen count
chosen_last a b chosen count e h = record {
  seat = net_lasts a b chosen.seat count e h.seat;
  some = net_lasts a b chosen.some 1 e h.some;
  stays = net_lasts a b chosen.stays 1 e h.stays;
}

pub keeps_last : (a b : Netlist) (round : RoundNets) (count : ℕ) → Extends a b → RoundKeeps round count a
    → RoundKeeps round count b
keeps_last a b round count e h = record {
  turns = turn_nets_last a b round.turns count e h.turns;
  chosen = chosen_last a b round.chosen count e h.chosen;
  holder = net_lasts a b round.holder count e h.holder;
  left = net_lasts a b round.left 6 e h.left;
}
