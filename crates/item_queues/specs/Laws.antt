-- What holds of a queue in longer netlists, and in cycles with the same state. No contract reads a proof of these.
use Rattle.std.proofs.Common.{◌≡◌, ℕ, zero, suc, ◌+◌, ◌%◌, ◌^◌, ◌<◌, List, [], ◌∷◌, length, take, slice_get, Some, refl, sym, subst, ap, ◌∙◌, inl, inr}
use Rattle.std.proofs.Math.Nat.{mod-lt}
use Rattle.std.proofs.lemmas.Nat.{pow_pos}
use Rattle.netlist.specs.declared.line.Memory.{Memory}
use Rattle.netlist.specs.Nets.{NetValue, MemValue}
use Rattle.netlist.specs.Netlists.{Netlist, IsWaiting, IsWellMade}
use Rattle.netlist.specs.Runs.{Cycle, SameState}
use Rattle.netlist.specs.Longer.{Extends}
use Rattle.net_parts.specs.Laws.{owned_same}
use Rattle.net_parts.specs.Groups.{values_of, InGroup}
use Rattle.item_queues.specs.declared.queue.ItemQueue.{ItemQueue}
use Rattle.item_queues.specs.declared.storage.Storage.{Storage}
use Rattle.item_queues.specs.declared.storage.Storage.TheVariants.{InRegisters, InMemories}
use Rattle.item_queues.specs.Items.{items_from, items_count, items_same}
use Rattle.item_queues.specs.Places.{InPlaces, values_in, item_in, newest_last}
use Rattle.item_queues.specs.Memories.{InMems, item_at, mem_of_number}
use Rattle.item_queues.specs.Storages.{owns_in, owns_memories_in, IsStorage, held_of, storage_lasts}
use Rattle.item_queues.specs.Queues.{owns, owns_memories, IsQueueMade, held_in, StartsEmpty, StepsQueue}

-- ---- how many are held

newest_count : (item : ℕ → List ℕ) (count : ℕ) → length (newest_last item count) ≡ count
newest_count item zero = refl
newest_count item (suc count) = ap suc (newest_count item count)

of_count : {N : ℕ} (cycle : Cycle) (bound count : ℕ) (storage : Storage N) → length (held_of cycle bound count storage) ≡ count
of_count cycle bound count (InRegisters places) = newest_count (item_in (values_in cycle (take bound places))) count
of_count cycle bound count (InMemories stored) =
    items_count (item_at cycle stored.memories) (2 ^ stored.pointers.first.width) (cycle.net stored.pointers.first.number) count

pub held_count : {N : ℕ} (cycle : Cycle) (queue : ItemQueue N) → length (held_in cycle queue) ≡ cycle.net queue.count.number
held_count cycle queue = of_count cycle queue.bound (cycle.net queue.count.number) queue.storage

-- ---- longer netlists

pub queue_lasts : {N : ℕ} (old new : Netlist) (like : List NetValue) (queue : ItemQueue N) → IsQueueMade old like queue
    → Extends old new → IsQueueMade new like queue
queue_lasts old new like queue h e = record {
  some = h.some;
  count_net = e.nets _ _ h.count_net;
  wide = h.wide;
  least = h.least;
  storage = storage_lasts old new like queue.bound queue.storage h.storage e;
  before = h.before;
}

pub starts_last : {N : ℕ} (old new : Netlist) (queue : ItemQueue N) → StartsEmpty old queue → Extends old new
    → StartsEmpty new queue
starts_last old new queue h e run cycles r = h run cycles (e.runs run cycles r)

pub steps_last : {N : ℕ} (old new : Netlist) (queue : ItemQueue N) (item : List NetValue) (comes goes : NetValue)
    → StepsQueue old queue item comes goes → Extends old new → StepsQueue new queue item comes goes
steps_last old new queue item comes goes h e run cycles r = h run cycles (e.runs run cycles r)

-- ---- the same state

-- the same in each register of the queue, and in each place of its memories in this netlist
pub record SameQueue {N : ℕ} (netlist : Netlist) (queue : ItemQueue N) (one other : Cycle) : Type 0 where
  pub registers : (n : ℕ) → owns queue n → one.net n ≡ other.net n
  pub words : (m : ℕ) (memory : Memory) → owns_memories queue m → slice_get netlist.memories m ≡ Some memory → (place : ℕ)
      → place < 2 ^ memory.address_bits → one.cell m place ≡ other.cell m place

item_same : (one other : Cycle) (mems : List MemValue) (place : ℕ)
    → ((m : ℕ) → InMems mems m → one.cell m place ≡ other.cell m place) → item_at one mems place ≡ item_at other mems place
item_same one other [] place same = refl
item_same one other (mem ∷ mems) place same =
    ap (λ x. x ∷ item_at one mems place) (same mem.number (inl refl))
    ∙ ap (λ (xs : List ℕ). other.cell mem.number place ∷ xs) (item_same one other mems place (λ m o. same m (inr o)))

group_same : (one other : Cycle) (group : List NetValue) → ((n : ℕ) → InGroup group n → one.net n ≡ other.net n)
    → values_of one group ≡ values_of other group
group_same one other [] same = refl
group_same one other (net ∷ group) same =
    ap (λ x. x ∷ values_of one group) (same net.number (inl refl))
    ∙ ap (λ (xs : List ℕ). other.net net.number ∷ xs) (group_same one other group (λ n o. same n (inr o)))

row_same : (one other : Cycle) (row : List (List NetValue)) → ((n : ℕ) → InPlaces row n → one.net n ≡ other.net n)
    → values_in one row ≡ values_in other row
row_same one other [] same = refl
row_same one other (place ∷ row) same =
    ap (λ (x : List ℕ). x ∷ values_in one row) (group_same one other place (λ n o. same n (inl o)))
    ∙ ap (λ (xs : List (List ℕ)). values_of other place ∷ xs) (row_same one other row (λ n o. same n (inr o)))

of_same : {N : ℕ} (netlist : Netlist) (like : List NetValue) (bound count : ℕ) (storage : Storage N) (one other : Cycle)
    → IsStorage netlist like bound storage → ((n : ℕ) → owns_in bound storage n → one.net n ≡ other.net n) →
    ((m : ℕ) (memory : Memory) → owns_memories_in storage m → slice_get netlist.memories m ≡ Some memory → (place : ℕ)
    → place < 2 ^ memory.address_bits → one.cell m place ≡ other.cell m place) →
    held_of one bound count storage ≡ held_of other bound count storage
of_same netlist like bound count (InRegisters places) one other h registers words =
    ap (λ (items : List (List ℕ)). newest_last (item_in items) count) (row_same one other (take bound places) registers)
of_same netlist like bound count (InMemories stored) one other h registers words =
    let depth : ℕ = 2 ^ stored.pointers.first.width in
    ap (λ k. items_from (item_at one stored.memories) depth k count) (registers stored.pointers.first.number (inl refl))
    ∙ items_same (item_at other stored.memories) (item_at one stored.memories) depth
    (other.net stored.pointers.first.number) count
    (λ j below. item_same one other stored.memories _ (λ m o.
    (let own = mem_of_number netlist stored.pointers.first.width stored.memories h.memories m o in
    let mem = own.2.is_mem in
    words m mem.memory o (subst (λ k. slice_get netlist.memories k ≡ Some mem.memory) (sym own.1) mem.is) _
    (subst (λ bits. (other.net stored.pointers.first.number + j) % 2 ^ stored.pointers.first.width < 2 ^ bits)
    (sym (mem.address_bits ∙ own.2.has_address))
    (mod-lt (other.net stored.pointers.first.number + j) (pow_pos stored.pointers.first.width))))))

pub held_same : {N : ℕ} (netlist : Netlist) (like : List NetValue) (queue : ItemQueue N) (one other : Cycle)
    → IsQueueMade netlist like queue → SameQueue netlist queue one other → held_in one queue ≡ held_in other queue
held_same netlist like queue one other made same =
    ap (λ k. held_of one queue.bound k queue.storage) (same.registers queue.count.number (inl refl))
    ∙ of_same netlist like queue.bound
    (other.net queue.count.number) queue.storage one other made.storage (λ n o. same.registers n (inr o)) same.words

-- the same state of a longer netlist is the same queue
pub state_of_queue : {N : ℕ} (netlist longer : Netlist) (queue : ItemQueue N) (one other : Cycle) → IsWellMade netlist
    → ((n : ℕ) → owns queue n → IsWaiting netlist n) → Extends netlist longer → SameState longer one other
    → SameQueue longer queue one other
state_of_queue netlist longer queue one other made waits e state = record {
  registers = λ n o. owned_same netlist longer n one other made e (waits n o) state;
  words = λ m memory o is. state.words m memory is;
}
