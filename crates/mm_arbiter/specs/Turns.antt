-- The registers of the turns, and what they take.
use Rattle.std.specs.Prelude.{◌≡◌, ℕ, ◌-◌, ◌^◌, ◌<◌, Bool, List, [], ◌∷◌, length}
use Rattle.netlist.specs.Nets.{NetValue}
use Rattle.netlist.specs.Netlists.{Netlist}
use Rattle.netlist.specs.Runs.{Cycle, Run, IsRun}
use Rattle.netlist.specs.Longer.{Extends}
use Rattle.net_parts.specs.Nets.{IsNetOfWidth, IsBit, StartsLow}
use Rattle.net_parts.specs.Laws.{net_lasts}
use Rattle.mm_arbiter.specs.declared.turns.TurnNets.{TurnNets}
use Rattle.mm_arbiter.specs.Asks.{number}
use Rattle.mm_arbiter.specs.Depends.{IsSame}

-- the bits that say who asks, and the seat that holds the turn as one bit among them
pub record StandsAt (cycle : Cycle) (count : ℕ) (asks holder : NetValue) (bits : List Bool) (k : ℕ) : Type 0 where
  pub count_is : length bits ≡ count
  pub asks_are : cycle.net asks.number ≡ number bits
  pub holder_is : cycle.net holder.number ≡ 2 ^ k
  pub within : k < count

abbrev pub turns_of : TurnNets → List NetValue
turns_of turns = turns.holder ∷ turns.left ∷ turns.inside ∷ []

-- the registers are of nets of this netlist, for so many seats
pub record AreTurnNets (netlist : Netlist) (turns : TurnNets) (count : ℕ) : Type 0 where
  pub holder : IsNetOfWidth netlist turns.holder count
  pub left : IsNetOfWidth netlist turns.left 6
  pub inside : IsBit netlist turns.inside

-- they hold the same in both cycles
pub record HoldSame (turns : TurnNets) (one other : Cycle) : Type 0 where
  pub holder : IsSame turns.holder one other
  pub left : IsSame turns.left one other
  pub inside : IsSame turns.inside one other

-- in each run the last seat holds the turn at first, with nothing left, and no command is open
pub record TurnsStart (netlist : Netlist) (turns : TurnNets) (count : ℕ) : Type 0 where
  pub holder : (run : Run) (cycles : ℕ) → IsRun netlist run cycles → 0 < cycles → run.net 0 turns.holder.number ≡ 2 ^ (count - 1)
  pub left : StartsLow netlist turns.left
  pub inside : StartsLow netlist turns.inside

-- ---- laws. No contract reads a proof of these

pub turn_nets_last : (a b : Netlist) (turns : TurnNets) (count : ℕ) → Extends a b → AreTurnNets a turns count
    → AreTurnNets b turns count
turn_nets_last a b turns count e h = record {
  holder = net_lasts a b turns.holder count e h.holder;
  left = net_lasts a b turns.left 6 e h.left;
  inside = net_lasts a b turns.inside 1 e h.inside;
}

pub turns_start_on : (a b : Netlist) (turns : TurnNets) (count : ℕ) → Extends a b → TurnsStart a turns count
    → TurnsStart b turns count
turns_start_on a b turns count e h = record {
  holder = λ run cycles r. h.holder run cycles (e.runs run cycles r);
  left = λ run cycles r. h.left run cycles (e.runs run cycles r);
  inside = λ run cycles r. h.inside run cycles (e.runs run cycles r);
}
