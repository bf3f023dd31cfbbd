-- A queue shows its oldest item, begins empty, and moves from cycle to cycle.
use Rattle.std.proofs.Common.{◌≡◌, ℕ, zero, suc, ◌+◌, ◌-◌, ◌%◌, ◌^◌, ◌<◌, ◌≤◌, ◌⊎◌, Bool, true, false, ◌==◌, if◌then◌else◌, List, [], ◌∷◌, ◌++◌, append-nil, length, get_or, drop, take, refl, sym, subst, ap, ◌∙◌, arith, inl, inr}
use Rattle.std.proofs.Math.Nat.{mod-eq_of_lt, zero-mod}
use Rattle.std.proofs.Math.Dec.{eqb-suc-zero}
use Rattle.std.proofs.lemmas.Nat.{pow_pos}
use Rattle.histories.specs.History.{one_if, only_if}
use Rattle.netlist.specs.Nets.{NetValue}
use Rattle.netlist.specs.Netlists.{Netlist}
use Rattle.netlist.specs.Runs.{Cycle, Run, IsRun, cycle_of}
use Rattle.net_parts.specs.Nets.{StartsLow}
use Rattle.net_parts.specs.Groups.{values_of}
use Rattle.item_queues.specs.declared.queue.ItemQueue.{ItemQueue}
use Rattle.item_queues.specs.declared.storage.Storage.{Storage}
use Rattle.item_queues.specs.declared.storage.Storage.TheVariants.{InRegisters, InMemories}
use Rattle.item_queues.specs.Items.{items_from, ItemsMove, moved_items, moved_behind}
use Rattle.item_queues.specs.Steps.{CountsOn}
use Rattle.item_queues.specs.Places.{values_in, shifted, item_in, newest_last}
use Rattle.item_queues.specs.Memories.{item_at}
use Rattle.item_queues.specs.Storages.{IsStorage, IsPlaced, StorageGoesOn, held_of, shown_oldest}
use Rattle.item_queues.specs.Queues.{IsQueueMade, StartsEmpty, StepsQueue}
use Rattle.item_queues.proofs.Shifts.{values_count}

-- ---- the first cycle

none_held : {N : ℕ} (cycle : Cycle) (bound : ℕ) (storage : Storage N) → held_of cycle bound 0 storage ≡ []
none_held cycle bound (InRegisters places) = refl
none_held cycle bound (InMemories stored) = refl

placed_first : {N : ℕ} (netlist : Netlist) (like : List NetValue) (bound : ℕ) (storage : Storage N) (run : Run) (cycles : ℕ) → IsStorage netlist like bound storage → IsRun netlist run cycles → 0 < cycles → IsPlaced (cycle_of run 0) 0 storage
placed_first netlist like bound (InRegisters places) run cycles h r lt = tt
placed_first netlist like bound (InMemories stored) run cycles h r lt =
    let first = h.pointers.at_first run cycles r lt in
    let next = h.pointers.at_next run cycles r lt in
    let sum : run.net 0 stored.pointers.first.number + 0 ≡ 0 = omega (arith, first) in
    next ∙ sym (zero-mod (2 ^ stored.pointers.first.width)) ∙ ap (λ k. k % 2 ^ stored.pointers.first.width) (sym sum)

pub starts_empty : {N : ℕ} (netlist : Netlist) (like : List NetValue) (queue : ItemQueue N) → IsStorage netlist like queue.bound queue.storage → StartsLow netlist queue.count → StartsEmpty netlist queue
starts_empty netlist like queue h none run cycles r lt =
    let count = none run cycles r lt in
    record {
      in_order = record {
        placed = subst (λ k. IsPlaced (cycle_of run 0) k queue.storage) (sym count) (placed_first netlist like queue.bound queue.storage run cycles h r lt);
        few = omega (arith, count);
      };
      none = ap (λ k. held_of (cycle_of run 0) queue.bound k queue.storage) count ∙ none_held (cycle_of run 0) queue.bound queue.storage;
    }

-- ---- a step

one_few : (t : Bool) (count bound : ℕ) → (t ≡ true → count < bound) → count ≤ bound → count + one_if t ≤ bound
one_few true count bound room few = (let below = room refl in omega (arith, below))
one_few false count bound room few = omega (arith, few)

one_within : (g t : Bool) (count : ℕ) → (g ≡ true → (0 < count) ⊎ (t ≡ true)) → one_if g ≤ count + one_if t
one_within false t count some = omega arith
one_within true t count some = elim (some refl) [ inl held ↦ omega (arith, held) | inr comes ↦ ap_one t comes ]
  where
    ap_one : (t : Bool) → t ≡ true → 1 ≤ count + one_if t
    ap_one true e = omega arith
    ap_one false e = cc

-- ---- places that shift

newest_same : (one other : ℕ → List ℕ) (count : ℕ) → ((k : ℕ) → k < count → one k ≡ other k) → newest_last one count ≡ newest_last other count
newest_same one other zero same = refl
newest_same one other (suc count) same = ap (λ (x : List ℕ). x ∷ newest_last one count) (same count (omega arith)) ∙ ap (λ (xs : List (List ℕ)). other count ∷ xs) (newest_same one other count (λ k lt. same k (omega (arith, lt))))

-- the newest one stands first
newest_more : (item : ℕ → List ℕ) (count : ℕ) → newest_last item (suc count) ≡ newest_last (λ k. item (suc k)) count ++ item 0 ∷ []
newest_more item zero = refl
newest_more item (suc count) = ap (λ (xs : List (List ℕ)). item (suc count) ∷ xs) (newest_more item count)

newest_dropped : (item : ℕ → List ℕ) (count : ℕ) (goes : Bool) → one_if goes ≤ count → drop (one_if goes) (newest_last item count) ≡ newest_last item (count - one_if goes)
newest_dropped item zero true some = absurd (omega (arith, some))
newest_dropped item (suc count) true some = sym (ap (newest_last item) (let fewer : suc count - 1 ≡ count = omega arith in fewer))
newest_dropped item count false some = sym (ap (newest_last item) (let all : count - 0 ≡ count = omega arith in all))

-- each place but the first has the item that stood before it
shifted_item : (coming : List ℕ) (items : List (List ℕ)) (k : ℕ) (d e : List ℕ) → k < length items → get_or (shifted coming items) k d ≡ get_or (coming ∷ items) k e
shifted_item coming [] k d e lt = absurd (omega arith)
shifted_item coming (item ∷ items) zero d e lt = refl
shifted_item coming (item ∷ items) (suc k) d e lt = shifted_item item items k d e (omega (arith, lt))

in_shifted : (coming : List ℕ) (items : List (List ℕ)) (k : ℕ) → suc k < length items → item_in (shifted coming items) (suc k) ≡ item_in items k
in_shifted coming [] k lt = absurd (omega arith)
in_shifted coming (item ∷ items) k lt = shifted_item item items k coming item (omega (arith, lt))

first_shifted : (coming : List ℕ) (items : List (List ℕ)) → 0 < length items → item_in (shifted coming items) 0 ≡ coming
first_shifted coming [] lt = absurd (omega arith)
first_shifted coming (item ∷ items) lt = refl

newest_pushed : (items after : List (List ℕ)) (coming : List ℕ) (count : ℕ) (comes : Bool) → (comes ≡ true → count < length items) → after ≡ (if comes then shifted coming items else items) →
    newest_last (item_in after) (count + one_if comes) ≡ newest_last (item_in items) count ++ only_if comes coming
newest_pushed items after coming count true room e =
    let one : count + 1 ≡ suc count = omega arith in
    let few = room refl in
    ap (newest_last (item_in after)) one ∙ newest_more (item_in after) count
    ∙ ap (λ (xs : List (List ℕ)). xs ++ item_in after 0 ∷ []) (newest_same (λ k. item_in after (suc k)) (item_in items) count (λ k lt. ap (λ (row : List (List ℕ)). item_in row (suc k)) e ∙ in_shifted coming items k (omega (arith, lt, few))))
    ∙ ap (λ (x : List ℕ). newest_last (item_in items) count ++ x ∷ []) (ap (λ (row : List (List ℕ)). item_in row 0) e ∙ first_shifted coming items (omega (arith, few)))
newest_pushed items after coming count false room e =
    ap (newest_last (item_in after)) (let none : count + 0 ≡ count = omega arith in none) ∙ ap (λ (row : List (List ℕ)). newest_last (item_in row) count) e ∙ sym (append-nil (newest_last (item_in items) count))

-- ---- a queue moves

module _ {N : ℕ} (netlist : Netlist) (item : List NetValue) (comes goes : NetValue) (bound : ℕ) (run : Run) (cycles : ℕ) (r : IsRun netlist run cycles) (c : ℕ) (lt : c + 1 < cycles) (count later : ℕ)
    (few : count ≤ bound) (room : (run.net c comes.number == 1) ≡ true → count < bound) (within : one_if (run.net c goes.number == 1) ≤ count + one_if (run.net c comes.number == 1))
    (count_is : later ≡ (count + one_if (run.net c comes.number == 1)) - one_if (run.net c goes.number == 1)) where
  -- what holds of the storage a cycle later
  abbrev Moves : Storage N → Type 0
  Moves storage = IsPlaced (cycle_of run (c + 1)) later storage × (held_of (cycle_of run (c + 1)) bound later storage ≡ drop (one_if (run.net c goes.number == 1)) (held_of (cycle_of run c) bound count storage ++ only_if (run.net c comes.number == 1) (values_of (cycle_of run c) item)))

  storage_moves : (storage : Storage N) → IsStorage netlist item bound storage → StorageGoesOn netlist bound storage item comes goes → IsPlaced (cycle_of run c) count storage → Moves storage
  storage_moves (InRegisters places) h on placed =
      let count_here = h.count_is in
      let many = values_count (cycle_of run c) (take bound places) in
      let before : List (List ℕ) = values_in (cycle_of run c) (take bound places) in
      let after : List (List ℕ) = values_in (cycle_of run (c + 1)) (take bound places) in (
        tt,
        ap (newest_last (item_in after)) count_is
            ∙ sym (newest_dropped (item_in after) (count + one_if (run.net c comes.number == 1)) (run.net c goes.number == 1) within)
            ∙ ap (drop (one_if (run.net c goes.number == 1))) (newest_pushed before after (values_of (cycle_of run c) item) count (run.net c comes.number == 1) (λ t. (let below = room t in omega (arith, below, count_here, many))) (on run cycles r c lt)),
      )
  storage_moves (InMemories stored) h on placed =
      let next = h.pointers.next_net.has_width in
      let move : ItemsMove (item_at (cycle_of run c) stored.memories) (item_at (cycle_of run (c + 1)) stored.memories) (2 ^ stored.pointers.first.width) bound
      (run.net c stored.pointers.first.number) count (run.net c stored.pointers.next.number)
      (run.net (c + 1) stored.pointers.first.number) later (run.net (c + 1) stored.pointers.next.number)
      (run.net c comes.number == 1) (run.net c goes.number == 1) (values_of (cycle_of run c) item) = record {
        some = pow_pos stored.pointers.first.width;
        deep = h.depth;
        behind = placed;
        few = few;
        room = room;
        within = within;
        first_is = on.pointers.first run cycles r c lt;
        next_is = on.pointers.next run cycles r c lt ∙ ap (λ k. (run.net c stored.pointers.next.number + one_if (run.net c comes.number == 1)) % 2 ^ k) next;
        count_is = count_is;
        writes = λ place low. on.writes run cycles r c lt place (subst (λ k. place < 2 ^ k) (sym next) low);
      } in
      (moved_behind _ _ _ _ _ _ _ _ _ _ _ _ _ move, moved_items _ _ _ _ _ _ _ _ _ _ _ _ _ move)

pub steps_queue : {N : ℕ} (netlist : Netlist) (queue : ItemQueue N) (item : List NetValue) (comes goes : NetValue) → IsQueueMade netlist item queue → CountsOn netlist queue.count comes goes → StorageGoesOn netlist queue.bound queue.storage item comes goes → StepsQueue netlist queue item comes goes
steps_queue netlist queue item comes goes q counts on run cycles r c lt may =
    let wide = q.wide in
    let few = may.in_order.few in
    let all = one_few (run.net c comes.number == 1) (run.net c queue.count.number) queue.bound may.room few in
    let within = one_within (run.net c goes.number == 1) (run.net c comes.number == 1) (run.net c queue.count.number) may.some in
    let count_is = counts run cycles r c lt (omega (arith, all, wide)) within in
    let moved = storage_moves netlist item comes goes queue.bound run cycles r c lt (run.net c queue.count.number) (run.net (c + 1) queue.count.number) few may.room within count_is queue.storage q.storage on may.in_order.placed in
    record { in_order = record { placed = moved.0; few = omega (arith, count_is, all) }; held = moved.1 }

-- ---- the oldest item

-- what the chosen place shows
pub newest_shown : (items : List (List ℕ)) (count : ℕ) (made coming : List ℕ) → 1 ≤ count → made ≡ item_in items (count - 1) → shown_oldest (newest_last (item_in items) count) coming ≡ 1 ∷ made
newest_shown items zero made coming some e = absurd (omega (arith, some))
newest_shown items (suc count) made coming some e = ap (λ (x : List ℕ). 1 ∷ x) (sym (e ∙ ap (item_in items) (let place : suc count - 1 ≡ count = omega arith in place)))

-- and what the first place of memories does
pub first_shown : (item : ℕ → List ℕ) (depth first count : ℕ) (made coming : List ℕ) → 1 ≤ count → first < depth → made ≡ item first → shown_oldest (items_from item depth first count) coming ≡ 1 ∷ made
first_shown item depth first zero made coming some low e = absurd (omega (arith, some))
first_shown item depth first (suc count) made coming some low e = ap (λ k. 1 ∷ item k) (mod-eq_of_lt low) ∙ ap (λ (x : List ℕ). 1 ∷ x) (sym e)

-- the chosen nets show it: `read` is the oldest item where one is held
pub shows_oldest : {N : ℕ} (cycle : Cycle) (bound count : ℕ) (storage : Storage N) (some shown full : ℕ) (read coming chosen : List ℕ) →
    some ≡ (if count == 0 then 0 else 1) → shown ≡ (if count == 0 then full else 1) →
    (1 ≤ count → (other : List ℕ) → shown_oldest (held_of cycle bound count storage) other ≡ 1 ∷ read) → chosen ≡ (if some == 0 then coming else read) →
    (shown ∷ chosen) ≡ shown_oldest (held_of cycle bound count storage) (full ∷ coming)
shows_oldest cycle bound zero storage some shown full read coming chosen e f g h =
    ap (λ k. k ∷ chosen) f ∙ ap (λ (xs : List ℕ). full ∷ xs) (h ∙ ap (λ k. if k == 0 then coming else read) e) ∙ sym (ap (λ (items : List (List ℕ)). shown_oldest items (full ∷ coming)) (none_held cycle bound storage))
shows_oldest cycle bound (suc count) storage some shown full read coming chosen e f g h =
    let held = eqb-suc-zero count in
    ap (λ k. k ∷ chosen) (f ∙ ap (λ t. if t then full else 1) held) ∙ ap (λ (xs : List ℕ). 1 ∷ xs) (h ∙ ap (λ k. if k == 0 then coming else read) (e ∙ ap (λ t. if t then 0 else 1) held)) ∙ sym (g (omega arith) (full ∷ coming))
