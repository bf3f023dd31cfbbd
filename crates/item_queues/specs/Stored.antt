-- Items in memories, from the place of the oldest one on.
use Rattle.std.specs.Prelude.{◌≡◌, ℕ, ◌^◌, ◌≤◌, List}
use Rattle.netlist.specs.Nets.{NetValue}
use Rattle.netlist.specs.Netlists.{Netlist}
use Rattle.netlist.specs.Longer.{Extends}
use Rattle.net_parts.specs.Groups.{group_widths}
use Rattle.item_queues.specs.declared.stored.StoredItems.{StoredItems}
use Rattle.item_queues.specs.Registers.{ArePointers, PointersGoOn, pointers_last, going_lasts}
use Rattle.item_queues.specs.Memories.{AreMems, AreMemsInRow, mem_widths, TakesItems, mems_last}

-- pointers that reach each place of the memories, which are no larger than the bound needs
pub record IsStored {N : ℕ} (netlist : Netlist) (like : List NetValue) (bound : ℕ) (stored : StoredItems N) : Type 0 where
  pub pointers : ArePointers netlist stored.pointers
  pub depth : bound ≤ 2 ^ stored.pointers.first.width
  pub least : (bits : ℕ) → 1 ≤ bits → bound ≤ 2 ^ bits → stored.pointers.first.width ≤ bits
  pub memories : AreMems netlist stored.pointers.first.width stored.memories
  pub numbers : AreMemsInRow stored.memories
  pub widths : mem_widths stored.memories ≡ group_widths like

-- an item that comes goes to the next place, and the pointers go on
pub record StoredGoesOn {N : ℕ} (netlist : Netlist) (stored : StoredItems N) (item : List NetValue)
    (comes goes : NetValue) : Type 0 where
  pub pointers : PointersGoOn netlist stored.pointers comes goes
  pub writes : TakesItems netlist stored.memories comes stored.pointers.next item

-- ---- what stands lasts. No contract reads a proof of these

pub stored_lasts : {N : ℕ} (old new : Netlist) (like : List NetValue) (bound : ℕ) (stored : StoredItems N)
    → IsStored old like bound stored → Extends old new → IsStored new like bound stored
stored_lasts old new like bound stored h e = record {
  pointers = pointers_last old new stored.pointers h.pointers e;
  depth = h.depth;
  least = h.least;
  memories = mems_last old new stored.pointers.first.width stored.memories h.memories e;
  numbers = h.numbers;
  widths = h.widths;
}

pub stored_on_lasts : {N : ℕ} (old new : Netlist) (stored : StoredItems N) (item : List NetValue) (comes goes : NetValue)
    → StoredGoesOn old stored item comes goes → Extends old new → StoredGoesOn new stored item comes goes
stored_on_lasts old new stored item comes goes h e = record {
  pointers = going_lasts old new stored.pointers comes goes h.pointers e;
  writes = λ run cycles r. h.writes run cycles (e.runs run cycles r);
}
