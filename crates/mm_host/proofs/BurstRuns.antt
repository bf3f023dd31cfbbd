-- The unanswered reads of a host that reads in bursts, in a run.
use Rattle.std.proofs.Common.{◌≡◌, ℕ, zero, suc, ◌+◌, ◌<◌, ◌≤◌, Bool, true, false, not, ◌&&◌, ◌==◌, nat_eq, nat_lt, if◌then◌else◌, List, [], ◌∷◌, ◌++◌, length, map, drop, refl, sym, subst, ap, ◌∙◌, inl, arith}
use Rattle.std.proofs.lemmas.Bool.{ltb-true, ne_eqb}
use Rattle.std.proofs.lemmas.List.{length-map, map-append}
use Rattle.histories.specs.History.{is_raised, one_if, only_if}
use Rattle.netlist.specs.Nets.{NetValue}
use Rattle.netlist.specs.Netlists.{Netlist}
use Rattle.netlist.specs.Runs.{Cycle, Run, cycle_of, IsEndlessRun, IsValuation}
use Rattle.net_parts.specs.Laws.{bit_fits}
use Rattle.item_queues.specs.declared.queue.ItemQueue.{ItemQueue}
use Rattle.item_queues.specs.Storages.{shown_oldest}
use Rattle.item_queues.specs.Queues.{IsInOrder, MayMove, held_in}
use Rattle.item_queues.specs.Laws.{held_count}
use Rattle.memory_parts.specs.Queue.{Entry}
use Rattle.mm_host.specs.Queued.{QueuesOn, IsOldestAnswered}
use Rattle.mm_host.specs.Reads.{AreCounted}
use Rattle.mm_host.proofs.Bursts.{GotFits, IsNext, IsOldest, Step, entries_of, entries_count, some_held, stepped}

abbrev pub count_in : List ℕ → ℕ
count_in [] = 0
count_in (count ∷ others) = count

abbrev pub counts_in : Cycle → ItemQueue 1 → List ℕ
counts_in cycle queue = map count_in (held_in cycle queue)

-- the reads with the counts in a queue, the oldest of which has got so many words
abbrev pub reads_of : ItemQueue 1 → NetValue → Run → ℕ → List Entry
reads_of queue got run c = entries_of (run.net c got.number) (counts_in (cycle_of run c) queue)

high_is : (x : ℕ) → x < 2 → (x == 1) ≡ is_raised x
high_is zero h = refl
high_is (suc zero) h = refl
high_is (suc (suc x)) h = absurd (omega arith)

one_dropped : (t : Bool) (items : List (List ℕ)) → map count_in (drop (one_if t) items) ≡ drop (one_if t) (map count_in items)
one_dropped true [] = refl
one_dropped true (item ∷ items) = refl
one_dropped false items = refl

one_more : (t : Bool) (count : ℕ) → map count_in (only_if t (count ∷ [])) ≡ only_if t count
one_more true count = refl
one_more false count = refl

-- the oldest count is shown where there is one
shown_first : (items : List (List ℕ)) (n beats : ℕ) (some : Bool) → length items ≡ n → some ≡ not (nat_eq n 0) → (1 ≤ n → (coming : List ℕ) → shown_oldest items coming ≡ 1 ∷ beats ∷ []) →
    map count_in items ≡ (if some then beats ∷ drop 1 (map count_in items) else [])
shown_first [] n beats some e f shows = rw (f, ← e) refl
shown_first (item ∷ items) n beats some e f shows =
    let oldest : count_in item ≡ beats = ap (λ (xs : List ℕ). count_in (drop 1 xs)) (shows (omega (arith, e)) []) in
    let is : some ≡ true = f ∙ ap not (ne_eqb n 0 (λ none. omega (arith, e, none))) in
    ap (λ k. k ∷ map count_in items) oldest ∙ sym (ap (λ t. if t then beats ∷ map count_in items else []) is)

-- a read that is taken was shown, and there was room for it
room_of : (read shown wait : Bool) (u : ℕ) → shown ≡ (read && not (not (nat_lt u 16))) → (shown && not wait) ≡ true → u < 16
room_of read true wait u e f = ltb-true u 16 (by_test read (nat_lt u 16) e)
  where
    by_test : (r t : Bool) → true ≡ (r && not (not t)) → t ≡ true
    by_test true true e = refl
    by_test true false e = cc
    by_test false t e = cc
room_of read false wait u e f = cc

module _ (netlist : Netlist) (read count shown unanswered full wait valid told : NetValue) (k : AreCounted netlist read shown unanswered full) (l : QueuesOn netlist read count shown unanswered full wait valid told) (run : Run) (endless : IsEndlessRun netlist run) where
  val : (c : ℕ) → IsValuation netlist (cycle_of run c)
  val c = (endless (c + 1)).valuations c (omega arith)

  next_cycle : (c : ℕ) → c + 1 ≡ suc c
  next_cycle c = omega arith

  abbrev counts : ℕ → List ℕ
  counts c = counts_in (cycle_of run c) l.words.queue

  abbrev T : ℕ → Bool
  T c = is_raised (run.net c shown.number) && not (is_raised (run.net c wait.number))

  abbrev S : ℕ → Bool
  S c = is_raised (run.net c l.words.some.number)

  abbrev L : ℕ → Bool
  L c = is_raised (run.net c l.words.last.number)

  count_is : (c : ℕ) → length (counts c) ≡ run.net c unanswered.number
  count_is c = length-map (held_in (cycle_of run c) l.words.queue) count_in ∙ held_count (cycle_of run c) l.words.queue ∙ ap (λ (n : NetValue). run.net c n.number) l.words.count_is

  pub full_is : (c : ℕ) → is_raised (run.net c full.number) ≡ not (nat_lt (length (reads_of l.words.queue l.words.got run c)) 16)
  full_is c = k.is_full (cycle_of run c) (val c) ∙ ap (λ n. not (nat_lt n 16)) (sym (entries_count (run.net c l.words.got.number) (counts c) ∙ count_is c))

  comes_is : (c : ℕ) → (run.net c l.taken.number == 1) ≡ T c
  comes_is c = high_is _ (bit_fits netlist l.taken l.taken_bit (cycle_of run c) (val c)) ∙ l.takes (cycle_of run c) (val c)

  goes_is : (c : ℕ) → (run.net c l.words.last.number == 1) ≡ L c
  goes_is c = high_is _ (bit_fits netlist l.words.last l.words.last_bit (cycle_of run c) (val c))

  room : (c : ℕ) → T c ≡ true → run.net c unanswered.number < 16
  room c e =
      room_of (is_raised (run.net c read.number)) _ (is_raised (run.net c wait.number)) _
      (k.shows (cycle_of run c) (val c) ∙ ap (λ t. is_raised (run.net c read.number) && not t) (k.is_full (cycle_of run c) (val c))) e

  first_is : (c : ℕ) → counts c ≡ (if S c then run.net c l.words.beats.number ∷ drop 1 (counts c) else [])
  first_is c = shown_first (held_in (cycle_of run c) l.words.queue) _ _ (S c) (held_count (cycle_of run c) l.words.queue) (l.words.some_is (cycle_of run c) (val c)) (l.words.oldest (cycle_of run c) (val c))

  -- the queue is in order, and the oldest read hasn't got too many words
  record Stands (c : ℕ) : Type 0 where
    pub in_order : IsInOrder l.words.queue (cycle_of run c)
    pub fits : GotFits (run.net c l.words.got.number) (counts c)

  oldest : (c : ℕ) → Stands c → IsOldest (is_raised (run.net c valid.number)) (S c) (L c) (run.net c l.words.beats.number) (run.net c l.words.got.number) (run.net (suc c) l.words.got.number) (drop 1 (counts c)) (counts c)
  oldest c stands = record {
    held_is = first_is c;
    fits = stands.fits;
    answered = λ few.
        subst (IsOldestAnswered _ _ _ _ _) (sym (l.words.follows run (c + 2) (endless (c + 2)) c (omega arith)) ∙ ap (λ n. run.net n l.words.got.number) (next_cycle c))
        (l.words.answered (cycle_of run c) (val c) few);
  }

  may : (c : ℕ) → Stands c → MayMove l.words.queue l.taken l.words.last (cycle_of run c)
  may c stands = record {
    in_order = stands.in_order;
    room = λ high.
        (let low = room c (sym (comes_is c) ∙ high) in
        let bound = l.words.bound in
        let same : run.net c l.words.queue.count.number ≡ run.net c unanswered.number = ap (λ (n : NetValue). run.net c n.number) l.words.count_is in
        omega (arith, low, bound, same));
    some = λ high.
        inl (let some = some_held _ _ _ _ _ _ _ _ (oldest c stands) (sym (goes_is c) ∙ high) in
        let same = length-map (held_in (cycle_of run c) l.words.queue) count_in ∙ held_count (cycle_of run c) l.words.queue in
        omega (arith, some, same));
  }

  next_is : (c : ℕ) → Stands c → IsNext (L c) (T c) (run.net c count.number) (counts c) (counts (suc c))
  next_is c stands =
      let moved = l.words.steps run (c + 2) (endless (c + 2)) c (omega arith) (may c stands) in
      let coming : List ℕ = run.net c count.number ∷ [] in
      ap counts (sym (next_cycle c)) ∙ ap (map count_in) moved.held ∙ one_dropped (run.net c l.words.last.number == 1) _
      ∙ ap (λ (xs : List ℕ). drop (one_if (run.net c l.words.last.number == 1)) xs) (map-append count_in (held_in (cycle_of run c) l.words.queue) (only_if (run.net c l.taken.number == 1) coming))
      ∙ ap (λ (xs : List ℕ). drop (one_if (run.net c l.words.last.number == 1)) (counts c ++ xs)) (one_more (run.net c l.taken.number == 1) (run.net c count.number))
      ∙ ap (λ t. drop (one_if t) (counts c ++ only_if (run.net c l.taken.number == 1) (run.net c count.number))) (goes_is c)
      ∙ ap (λ t. drop (one_if (L c)) (counts c ++ only_if t (run.net c count.number))) (comes_is c)

  step_of : (c : ℕ) → Stands c → Step (is_raised (run.net c valid.number)) (T c) (run.net c count.number) (run.net c l.words.got.number) (run.net (suc c) l.words.got.number) (counts c) (counts (suc c))
  step_of c stands = stepped _ _ _ _ _ _ _ _ _ _ _ (oldest c stands) (next_is c stands)

  none_yet : counts 0 ≡ []
  none_yet = ap (map count_in) (l.words.empty run 1 (endless 1) (omega arith)).none

  stands : (c : ℕ) → Stands c
  stands zero = record {
    in_order = (l.words.empty run 1 (endless 1) (omega arith)).in_order;
    fits = subst (GotFits (run.net 0 l.words.got.number)) (sym none_yet) (l.words.none_got run 1 (endless 1) (omega arith));
  }
  stands (suc c) = record {
    in_order = subst (λ k. IsInOrder l.words.queue (cycle_of run k)) (next_cycle c) (l.words.steps run (c + 2) (endless (c + 2)) c (omega arith) (may c (stands c))).in_order;
    fits = (step_of c (stands c)).fits;
  }

  pub begins : reads_of l.words.queue l.words.got run 0 ≡ []
  begins = ap (entries_of (run.net 0 l.words.got.number)) none_yet

  pub step : (c : ℕ) → Step (is_raised (run.net c valid.number)) (T c) (run.net c count.number) (run.net c l.words.got.number) (run.net (suc c) l.words.got.number) (counts c) (counts (suc c))
  step c = step_of c (stands c)
