-- The places of the oldest item and of the next one in memories.
use Rattle.std.specs.Prelude.{◌≡◌, ℕ, ◌<◌, ◌⊎◌}
use Rattle.netlist.specs.Nets.{NetValue}
use Rattle.netlist.specs.Netlists.{Netlist, IsNet}
use Rattle.netlist.specs.Longer.{Extends}
use Rattle.net_parts.specs.Nets.{IsNetOfWidth, StartsLow}
use Rattle.net_parts.specs.Laws.{net_lasts}
use Rattle.item_queues.specs.declared.pointers.Pointers.{Pointers}
use Rattle.item_queues.specs.Steps.{MovesBy}

-- the numbers of the registers
abbrev pub owns_pointers : Pointers → ℕ → Type 0
owns_pointers pointers n = (n ≡ pointers.first.number) ⊎ (n ≡ pointers.next.number)

-- two places of memories, which begin low
pub record ArePointers (netlist : Netlist) (pointers : Pointers) : Type 0 where
  pub first_net : IsNet netlist pointers.first
  pub next_net : IsNetOfWidth netlist pointers.next pointers.first.width
  pub at_first : StartsLow netlist pointers.first
  pub at_next : StartsLow netlist pointers.next
  pub before_next : pointers.first.number < pointers.next.number

-- the oldest item goes, and one comes behind the newest
pub record PointersGoOn (netlist : Netlist) (pointers : Pointers) (comes goes : NetValue) : Type 0 where
  pub first : MovesBy netlist pointers.first goes
  pub next : MovesBy netlist pointers.next comes

-- ---- what stands lasts. No contract reads these proofs; answers cite them

pub pointers_last : (old new : Netlist) (pointers : Pointers) → ArePointers old pointers → Extends old new
    → ArePointers new pointers
pointers_last old new pointers h e = record {
  first_net = e.nets _ _ h.first_net;
  next_net = net_lasts old new pointers.next pointers.first.width e h.next_net;
  at_first = λ run cycles r. h.at_first run cycles (e.runs run cycles r);
  at_next = λ run cycles r. h.at_next run cycles (e.runs run cycles r);
  before_next = h.before_next;
}

pub going_lasts : (old new : Netlist) (pointers : Pointers) (comes goes : NetValue) → PointersGoOn old pointers comes goes
    → Extends old new → PointersGoOn new pointers comes goes
going_lasts old new pointers comes goes h e = record {
  first = λ run cycles r. h.first run cycles (e.runs run cycles r);
  next = λ run cycles r. h.next run cycles (e.runs run cycles r);
}
