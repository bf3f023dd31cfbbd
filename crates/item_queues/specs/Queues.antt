-- A queue of items: its nets, and what they hold from cycle to cycle.
use Rattle.std.specs.Prelude.{◌≡◌, ℕ, ◌+◌, ◌^◌, ◌<◌, ◌≤◌, ◌⊎◌, ◌==◌, true, List, [], ◌++◌, drop}
use Rattle.histories.specs.History.{one_if, only_if}
use Rattle.netlist.specs.Nets.{NetValue}
use Rattle.netlist.specs.Netlists.{Netlist, IsNet}
use Rattle.netlist.specs.Runs.{Cycle, Run, cycle_of, IsRun}
use Rattle.net_parts.specs.Groups.{values_of}
use Rattle.item_queues.specs.declared.queue.ItemQueue.{ItemQueue}
use Rattle.item_queues.specs.Steps.{EachStep}
use Rattle.item_queues.specs.Storages.{owns_in, owns_memories_in, IsStorage, held_of, IsPlaced}

-- the numbers of the registers
abbrev pub owns : {N : ℕ} → ItemQueue N → ℕ → Type 0
owns queue n = (n ≡ queue.count.number) ⊎ owns_in queue.bound queue.storage n

-- the numbers of the memories
abbrev pub owns_memories : {N : ℕ} → ItemQueue N → ℕ → Type 0
owns_memories queue m = owns_memories_in queue.storage m

-- the nets of a queue of items like this one: a count no wider than it takes to reach the bound, and registers or memories for so
-- many items
pub record IsQueueMade {N : ℕ} (netlist : Netlist) (like : List NetValue) (queue : ItemQueue N) : Type 0 where
  pub some : 1 ≤ queue.bound
  pub count_net : IsNet netlist queue.count
  pub wide : queue.bound < 2 ^ queue.count.width
  pub least : (bits : ℕ) → 1 ≤ bits → queue.bound < 2 ^ bits → queue.count.width ≤ bits
  pub storage : IsStorage netlist like queue.bound queue.storage
  pub before : (n : ℕ) → owns_in queue.bound queue.storage n → queue.count.number < n

-- the items that are held, oldest first
abbrev pub held_in : {N : ℕ} → Cycle → ItemQueue N → List (List ℕ)
held_in cycle queue = held_of cycle queue.bound (cycle.net queue.count.number) queue.storage

-- the items stand where they belong, and there are no more than the bound
pub record IsInOrder {N : ℕ} (queue : ItemQueue N) (cycle : Cycle) : Type 0 where
  pub placed : IsPlaced cycle (cycle.net queue.count.number) queue.storage
  pub few : cycle.net queue.count.number ≤ queue.bound

-- none is held
pub record IsEmptyQueue {N : ℕ} (queue : ItemQueue N) (cycle : Cycle) : Type 0 where
  pub in_order : IsInOrder queue cycle
  pub none : held_in cycle queue ≡ []

-- in each run the queue begins empty
abbrev pub StartsEmpty : {N : ℕ} → Netlist → ItemQueue N → Type 0
StartsEmpty netlist queue = (run : Run) (cycles : ℕ) → IsRun netlist run cycles → 0 < cycles → IsEmptyQueue queue (cycle_of run 0)

-- an item comes only where there is room, and one goes only where one is held or comes
pub record MayMove {N : ℕ} (queue : ItemQueue N) (comes goes : NetValue) (cycle : Cycle) : Type 0 where
  pub in_order : IsInOrder queue cycle
  pub room : (cycle.net comes.number == 1) ≡ true → cycle.net queue.count.number < queue.bound
  pub some : (cycle.net goes.number == 1) ≡ true → (0 < cycle.net queue.count.number) ⊎ ((cycle.net comes.number == 1) ≡ true)

-- the item that comes is the newest one, and the oldest one goes
pub record HasMoved {N : ℕ} (queue : ItemQueue N) (item : List NetValue) (comes goes : NetValue)
    (before after : Cycle) : Type 0 where
  pub in_order : IsInOrder queue after
  pub held : held_in after queue
      ≡ drop (one_if (before.net goes.number == 1))
      (held_in before queue ++ only_if (before.net comes.number == 1) (values_of before item))

-- in each run the queue moves from cycle to cycle
abbrev pub StepsQueue : {N : ℕ} → Netlist → ItemQueue N → List NetValue → NetValue → NetValue → Type 0
StepsQueue netlist queue item comes goes =
    EachStep netlist (λ run c. MayMove queue comes goes (cycle_of run c)
    → HasMoved queue item comes goes (cycle_of run c) (cycle_of run (c + 1)))
