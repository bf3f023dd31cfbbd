-- What holds the items of a queue, in shifting registers or in memories.
use Rattle.std.specs.Prelude.{◌≡◌, ℕ, ◌+◌, ◌%◌, ◌^◌, ◌<◌, List, [], ◌∷◌, length, take}
use Rattle.netlist.specs.Nets.{NetValue}
use Rattle.netlist.specs.Netlists.{Netlist}
use Rattle.netlist.specs.Runs.{Cycle}
use Rattle.netlist.specs.Longer.{Extends}
use Rattle.item_queues.specs.declared.storage.Storage.{Storage}
use Rattle.item_queues.specs.declared.storage.Storage.TheVariants.{InRegisters, InMemories}
use Rattle.item_queues.specs.Items.{items_from}
use Rattle.item_queues.specs.Registers.{owns_pointers}
use Rattle.item_queues.specs.Places.{ArePlaces, InPlaces, values_in, item_in, newest_last, ShiftsOn, row_lasts}
use Rattle.item_queues.specs.Memories.{InMems, item_at}
use Rattle.item_queues.specs.Stored.{IsStored, StoredGoesOn, stored_lasts, stored_on_lasts}

-- the numbers of its registers
abbrev pub owns_in : {N : ℕ} → ℕ → Storage N → ℕ → Type 0
owns_in bound (InRegisters places) n = InPlaces (take bound places) n
owns_in bound (InMemories stored) n = owns_pointers stored.pointers n

-- and of its memories
abbrev pub owns_memories_in : {N : ℕ} → Storage N → ℕ → Type 0
owns_memories_in (InRegisters places) m = ⊥
owns_memories_in (InMemories stored) m = InMems stored.memories m

-- as many places as there may be items, which are few
pub record AreShifting (netlist : Netlist) (like : List NetValue) (bound : ℕ) (row : List (List NetValue)) : Type 0 where
  pub few : bound < 4
  pub count_is : length row ≡ bound
  pub places : ArePlaces netlist like row

-- registers or memories for so many items like this one
abbrev pub IsStorage : {N : ℕ} → Netlist → List NetValue → ℕ → Storage N → Type 0
IsStorage netlist like bound (InRegisters places) = AreShifting netlist like bound (take bound places)
IsStorage netlist like bound (InMemories stored) = IsStored netlist like bound stored

-- so many items that are held, oldest first
abbrev pub held_of : {N : ℕ} → Cycle → ℕ → ℕ → Storage N → List (List ℕ)
held_of cycle bound count (InRegisters places) = newest_last (item_in (values_in cycle (take bound places))) count
held_of cycle bound count (InMemories stored) =
    items_from (item_at cycle stored.memories) (2 ^ stored.pointers.first.width) (cycle.net stored.pointers.first.number) count

-- in memories the next place is the one behind the items
abbrev pub IsPlaced : {N : ℕ} → Cycle → ℕ → Storage N → Type 0
IsPlaced cycle count (InRegisters places) = Unit {0}
IsPlaced cycle count (InMemories stored) =
    cycle.net stored.pointers.next.number ≡ (cycle.net stored.pointers.first.number + count) % 2 ^ stored.pointers.first.width

-- from cycle to cycle an item that comes is taken
abbrev pub StorageGoesOn : {N : ℕ} → Netlist → ℕ → Storage N → List NetValue → NetValue → NetValue → Type 0
StorageGoesOn netlist bound (InRegisters places) item comes goes = ShiftsOn netlist comes item (take bound places)
StorageGoesOn netlist bound (InMemories stored) item comes goes = StoredGoesOn netlist stored item comes goes

-- the oldest item as a place that is full, and where none is held what comes
abbrev pub shown_oldest : List (List ℕ) → List ℕ → List ℕ
shown_oldest [] coming = coming
shown_oldest (item ∷ items) coming = 1 ∷ item

-- ---- what stands lasts. No contract reads a proof of these

pub storage_lasts : {N : ℕ} (old new : Netlist) (like : List NetValue) (bound : ℕ) (storage : Storage N)
    → IsStorage old like bound storage → Extends old new → IsStorage new like bound storage
storage_lasts old new like bound (InRegisters places) h e =
    record { few = h.few; count_is = h.count_is; places = row_lasts old new like (take bound places) h.places e }
storage_lasts old new like bound (InMemories stored) h e = stored_lasts old new like bound stored h e

pub storage_on_lasts : {N : ℕ} (old new : Netlist) (bound : ℕ) (storage : Storage N) (item : List NetValue)
    (comes goes : NetValue)
    → StorageGoesOn old bound storage item comes goes → Extends old new → StorageGoesOn new bound storage item comes goes
storage_on_lasts old new bound (InRegisters places) item comes goes h e = λ run cycles r. h run cycles (e.runs run cycles r)
storage_on_lasts old new bound (InMemories stored) item comes goes h e = stored_on_lasts old new stored item comes goes h e
