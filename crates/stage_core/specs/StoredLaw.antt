-- The nets of a queue in memories are the machine of a queue.
use Rattle.std.proofs.Common.{◌≡◌, ℕ, zero, suc, ◌+◌, ◌<◌, Bool, true, false, ◌&&◌, ◌||◌, ◌⊎◌, ◌==◌, nat_lt, if◌then◌else◌, List, [], ◌∷◌, ◌++◌, length, map, drop, refl, sym, subst, ap, ◌∙◌, arith, inl, inr}
use Rattle.std.proofs.lemmas.Bool.{ltb-true, lt-ltb, ne_eqb}
use Rattle.std.proofs.lemmas.List.{length-map, map-append}
use Rattle.histories.specs.History.{one_if, only_if}
use Rattle.netlist.specs.Nets.{NetValue}
use Rattle.netlist.specs.Netlists.{Netlist}
use Rattle.netlist.specs.Runs.{Cycle, Run, cycle_of, IsEndlessRun, IsValuation}
use Rattle.stream_runs.specs.View.{Side, Beat}
use Rattle.stream_machines.specs.Buffers.{IsQueueRun, ShowsHeld}
use Rattle.net_parts.specs.Groups.{values_of}
use Rattle.item_queues.specs.Queues.{owns, owns_memories, IsInOrder, MayMove, held_in}
use Rattle.item_queues.specs.Storages.{shown_oldest}
use Rattle.item_queues.specs.Laws.{held_count, held_same}
use Rattle.stage_core.specs.declared.beat.BeatNets.{BeatNets}
use Rattle.stage_core.specs.declared.stored_queue.StoredKept.{StoredKept}
use Rattle.stage_core.specs.Beats.{view_of, ShowSame, beat_in, group_of}
use Rattle.stage_core.specs.BeatPlaces.{place_nets, first_value, beat_of, shown_of, values_shown}
use Rattle.stage_core.specs.BeatLaws.{show_same, all_same}
use Rattle.net_parts.specs.Memories.{SameWords}
use Rattle.stage_core.specs.StoredNets.{StoredForward, StoredBackward, stored_forward_lasts, stored_backward_lasts}
use Rattle.stage_core.specs.Queued.{QueuesInLonger}

-- ---- lists

pub one_dropped : (t : Bool) (items : List (List ℕ))
    → map beat_of (drop (one_if t) items) ≡ (if t then drop 1 (map beat_of items) else map beat_of items)
one_dropped true [] = refl
one_dropped true (item ∷ items) = refl
one_dropped false items = refl

pub one_more : (t : Bool) (item : List ℕ) → map beat_of (only_if t item) ≡ (if t then beat_of item ∷ [] else [])
one_more true item = refl
one_more false item = refl

both : (a b : Bool) → (a && b) ≡ true → (a ≡ true) × (b ≡ true)
both true true e = (refl, refl)
both true false e = cc
both false b e = cc

-- where the oldest beat is shown, one is held or one comes
pub shown_some : (held : List (List ℕ)) (coming shown : List ℕ) → shown ≡ shown_oldest held coming
    → (first_value shown == 1) ≡ true → (0 < length held) ⊎ ((held ≡ []) × ((first_value coming == 1) ≡ true))
shown_some [] coming shown e high = inr (refl, sym (ap (λ values. first_value values == 1) e) ∙ high)
shown_some (item ∷ held) coming shown e high = inl (omega arith)

-- the beat of the oldest item is shown, and where none is held what comes
pub shows_items : (from to : BeatNets) (ready up : NetValue) (run : Run) (c : ℕ) (items : List (List ℕ))
    → values_of (cycle_of run c) (group_of to) ≡ shown_oldest items (values_of (cycle_of run c) (group_of from))
    → ShowsHeld true (map beat_of items) (view_of run from up) (view_of run to ready) c
shows_items from to ready up run c [] same =
    record { valid = sym (ap first_value same); beat = sym (ap (λ values. beat_of (drop 1 values)) same) }
shows_items from to ready up run c (item ∷ items) same =
    (ap (λ values. first_value values == 1) same, ap (λ values. beat_of (drop 1 values)) same)

module _ (from to : BeatNets) (kept : StoredKept) (depth : ℕ) (ready up : NetValue) (netlist : Netlist) (run : Run)
    (f : StoredForward from to kept depth netlist) (b : StoredBackward kept ready up netlist)
    (endless : IsEndlessRun netlist run) where
  here : (c : ℕ) → IsValuation netlist (cycle_of run c)
  here c = (endless (c + 1)).valuations c (omega arith)

  abbrev items : ℕ → List (List ℕ)
  items c = held_in (cycle_of run c) kept.queue

  abbrev held : ℕ → List Beat
  held c = map beat_of (items c)

  count_is : (c : ℕ) → length (items c) ≡ run.net c kept.queue.count.number
  count_is c = held_count (cycle_of run c) kept.queue

  -- an item comes only where there is room
  room : (c : ℕ) → (run.net c b.comes.number == 1) ≡ true → run.net c kept.queue.count.number < kept.queue.bound
  room c high =
      ltb-true _ _ (sym (b.asks (cycle_of run c) (here c)) ∙ (both _ _ (sym (b.takes (cycle_of run c) (here c)) ∙ high)).1)

  empty_takes : (c : ℕ) → items c ≡ [] → (run.net c kept.from.valid.number == 1) ≡ true → (run.net c b.comes.number == 1) ≡ true
  empty_takes c none valid =
      let count : 0 ≡ run.net c kept.queue.count.number = sym (ap length none) ∙ count_is c in
      let some = f.made.some in
      let asks : (run.net c up.number == 1) ≡ true = b.asks (cycle_of run c) (here c) ∙ lt-ltb _ _ (omega (arith, count, some)) in
      b.takes (cycle_of run c) (here c) ∙ rw (valid, asks) refl

  some_there : (c : ℕ) → (run.net c b.goes.number == 1) ≡ true
      → (0 < run.net c kept.queue.count.number) ⊎ ((run.net c b.comes.number == 1) ≡ true)
  some_there c high =
      let shown : (run.net c to.valid.number == 1) ≡ true = ap
      (λ (n : NetValue). run.net c n.number == 1) f.valid_is
      ∙ (both _ _ (sym (b.gives (cycle_of run c) (here c)) ∙ high)).0 in
      elim (shown_some (items c) (values_of (cycle_of run c) (group_of kept.from)) (values_of (cycle_of run c) (group_of to))
      (f.shows (cycle_of run c) (here c)) shown) [
        | inl some ↦ inl (subst (λ n. 0 < n) (count_is c) some)
        | inr none ↦ inr (empty_takes c none.0 none.1)
      ]

  may : (c : ℕ) → IsInOrder kept.queue (cycle_of run c) → MayMove kept.queue b.comes b.goes (cycle_of run c)
  may c order = record { in_order = order; room = room c; some = some_there c }

  in_order : (c : ℕ) → IsInOrder kept.queue (cycle_of run c)
  in_order zero = (f.starts run 1 (endless 1) (omega arith)).in_order
  in_order (suc c) =
      subst (λ k. IsInOrder kept.queue (cycle_of run k)) (next_of c)
      (b.steps run (c + 2) (endless (c + 2)) c (omega arith) (may c (in_order c))).in_order
    where
      next_of : (c : ℕ) → c + 1 ≡ suc c
      next_of c = omega arith

  moved : (c : ℕ)
      → held (c + 1)
      ≡ (if run.net c b.goes.number == 1
      then drop 1 (held c ++ (if run.net c b.comes.number == 1 then beat_in (cycle_of run c) kept.from ∷ [] else []))
      else held c ++ (if run.net c b.comes.number == 1 then beat_in (cycle_of run c) kept.from ∷ [] else []))
  moved c =
      let coming : List ℕ = values_of (cycle_of run c) (place_nets kept.from).item in
      let step = b.steps run (c + 2) (endless (c + 2)) c (omega arith) (may c (in_order c)) in
      ap (map beat_of) step.held
      ∙ one_dropped (run.net c b.goes.number == 1) (items c ++ only_if (run.net c b.comes.number == 1) coming)
      ∙ ap (λ (beats : List Beat). if run.net c b.goes.number == 1 then drop 1 beats else beats)
      (map-append beat_of (items c) (only_if (run.net c b.comes.number == 1) coming)
      ∙ ap (λ (beats : List Beat). held c ++ beats) (one_more (run.net c b.comes.number == 1) coming))

  shows_held : (c : ℕ) → ShowsHeld true (held c) (view_of run kept.from up) (view_of run to ready) c
  shows_held c = shows_items kept.from to ready up run c (items c) (f.shows (cycle_of run c) (here c))

  -- what a queue of some depth asks for
  some_depth : (t r : Bool) → t ≡ (t || ((depth == 0) && r))
  some_depth true r = refl
  some_depth false r =
      sym
      (ap (λ t. t && r)
      (ne_eqb depth 0 (λ e. (let some = f.made.some in let bound = f.bound in absurd (omega (arith, some, bound, e))))))

  stored_run : (side : Side) → side.pace.latency ≡ 0
      → IsQueueRun depth side (view_of run kept.from up) (view_of run to ready) held
  stored_run side direct = record {
    holds = record {
      starts = ap (map beat_of) (f.starts run 1 (endless 1) (omega arith)).none;
      shows = shows_held;
      moves = λ c legal.
          ap held (next_of c) ∙ moved c
          ∙ (let comes = b.takes (cycle_of run c) (here c) in
          let goes : (run.net c b.goes.number == 1) ≡ ((run.net c to.valid.number == 1) && (run.net c ready.number == 1)) = b.gives (cycle_of run c) (here c) ∙ ap
          (λ (n : NetValue). (run.net c n.number == 1) && (run.net c ready.number == 1)) (sym f.valid_is) in
          rw (comes, goes, direct) refl);
    };
    asks = λ c.
        b.asks (cycle_of run c) (here c)
        ∙ ap (λ n. nat_lt n kept.queue.bound) (sym (count_is c) ∙ sym (length-map (items c) beat_of))
        ∙ ap (nat_lt (length (held c))) f.bound
        ∙ some_depth (nat_lt (length (held c)) depth) (run.net c ready.number == 1);
  } where
    next_of : (c : ℕ) → suc c ≡ c + 1
    next_of c = omega arith

pub stored_queues : (from to : BeatNets) (kept : StoredKept) (depth : ℕ) (ready up : NetValue) (netlist : Netlist)
    → StoredForward from to kept depth netlist → StoredBackward kept ready up netlist
    → QueuesInLonger depth netlist from up to ready
stored_queues from to kept depth ready up netlist f b longer e run endless side direct = (
  held from to kept depth ready up longer run (stored_forward_lasts from to kept depth netlist longer f e)
      (stored_backward_lasts kept ready up netlist longer b e) endless,
  subst (λ (n : BeatNets). IsQueueRun depth side (view_of run n up) (view_of run to ready)
      (held from to kept depth ready up longer run (stored_forward_lasts from to kept depth netlist longer f e)
      (stored_backward_lasts kept ready up netlist longer b e) endless))
      (sym f.from_is)
      (stored_run from to kept depth ready up longer run (stored_forward_lasts from to kept depth netlist longer f e)
      (stored_backward_lasts kept ready up netlist longer b e) endless side direct),
)

-- what is shown depends on the queue and on what comes
pub stored_ignores : (from to : BeatNets) (kept : StoredKept) (depth : ℕ) (netlist : Netlist) (one other : Cycle)
    → StoredForward from to kept depth netlist → IsValuation netlist one → IsValuation netlist other →
    ((n : ℕ) → owns kept.queue n → one.net n ≡ other.net n) → SameWords (owns_memories kept.queue) netlist one other
    → ShowSame from one other → ShowSame to one other
stored_ignores from to kept depth netlist one other f v w state words same =
    let queue : held_in one kept.queue ≡ held_in other kept.queue = held_same netlist (place_nets kept.from).item kept.queue one other f.made (record { registers = state; words = words }) in
    let coming : values_of one (group_of kept.from) ≡ values_of other (group_of kept.from) =
    subst (λ (n : BeatNets). values_of one (group_of n) ≡ values_of other (group_of n)) f.from_is
    (ap values_shown (all_same from one other same)) in
    show_same to one other
    (ap shown_of
    (f.shows one v ∙ ap (λ items. shown_oldest items (values_of one (group_of kept.from))) queue
    ∙ ap (shown_oldest (held_in other kept.queue)) coming ∙ sym (f.shows other w)))
