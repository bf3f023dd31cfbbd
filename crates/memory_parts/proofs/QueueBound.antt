-- A queue of unanswered reads into which a read comes only where there is room never holds more than its bound.
use Rattle.std.proofs.Common.{ℕ, zero, suc, ◌<◌, ◌≤◌, ◌≡◌, ◌+◌, [], ◌∷◌, ◌++◌, List, Bool, true, false, arith, sym, ap, ◌∙◌, refl, length, map, append-nil, length-append, if◌then◌else◌}
use Rattle.std.proofs.lemmas.List.{map-append}
use Rattle.std.proofs.lemmas.List.Elements.{All-head}
use Rattle.histories.specs.History.{is_raised, only_if, unreached, total}
use Rattle.histories.specs.Laws.{unreached_falls}
use Rattle.memory_runs.specs.Commands.{is_of_reads, words_before}
use Rattle.memory_machines.specs.Link.{Port, Marked, taken_at, AreLegalAt, read_beats}
use Rattle.memory_machines.specs.SideLaws.{total_append}
use Rattle.memory_parts.specs.Queue.{Entry, QueuesReads, takes_read, entry_at, answered}
use Rattle.memory_parts.proofs.Queued.{entries, left_after}
use Rattle.memory_parts.proofs.Queued.{words_of, all_ask, queue_is, unreached_is, answered_length, entries_more, HasWords, word_more, left_push, asks_some}

-- the words that are asked are those of the reads
pub owed_is : (ms : List Marked) → length (read_beats ms) ≡ words_of (entries ms)
owed_is [] = refl
owed_is (m ∷ ms) = by_test (is_of_reads m.transfer.kind) refl (owed_is ms)
  where
    by_test : (b : Bool) → is_of_reads m.transfer.kind ≡ b → length (read_beats ms) ≡ words_of (entries ms) → length (read_beats (m ∷ ms)) ≡ words_of (entries (m ∷ ms))
    by_test true e ih = rw e (length-append m.transfer.beats (read_beats ms) ∙ ap (λ n. length m.transfer.beats + n) ih)
    by_test false e ih = rw e ih

-- one more or none
with_one : {A : Type 0} (b : Bool) (xs : List A) (x : A) → length (xs ++ only_if b x) ≡ length xs + (if b then 1 else 0)
with_one true xs x = length-append xs (x ∷ [])
with_one false xs x = length-append xs []

module _ (port : Port) (end : ℕ) (legal : AreLegalAt port end) where
  -- the words that are asked with one more cycle
  pub words_more : (c : ℕ) → c < end → words_of (entries (taken_at port (suc c))) ≡ words_of (entries (taken_at port c)) + words_of (only_if (takes_read port c) (entry_at port c))
  words_more c low =
      ap words_of (entries_more port end legal c low)
      ∙ ap total (map-append (λ (e : Entry). e.left) (entries (taken_at port c)) (only_if (takes_read port c) (entry_at port c)))
      ∙ total_append (map (λ (e : Entry). e.left) (entries (taken_at port c))) (map (λ (e : Entry). e.left) (only_if (takes_read port c) (entry_at port c)))

module _ (port : Port) (end : ℕ) (legal : AreLegalAt port end) (valid : ℕ → ℕ) (queue : ℕ → List Entry) (queues : QueuesReads port valid queue end)
    (owed : (c : ℕ) → suc c < end → words_before valid (suc c) ≤ words_of (entries (taken_at port c))) where
  -- no more words have come than are asked
  pub words_few : (c : ℕ) → c < end → words_before valid c ≤ words_of (entries (taken_at port c))
  words_few zero low = omega arith
  words_few (suc c) low = let few = owed c low in let more = words_more port end legal c (omega arith) in omega (arith, few, more)

  pub queue_holds : (c : ℕ) → c < end → queue c ≡ left_after (entries (taken_at port c)) (words_before valid c)
  queue_holds = queue_is port end legal valid queue queues owed

  -- before the word of a cycle, what is left of all reads is the queue and the read of the cycle
  pub left_now : (c : ℕ) → c < end → left_after (entries (taken_at port (suc c))) (words_before valid c) ≡ queue c ++ only_if (takes_read port c) (entry_at port c)
  left_now c low = ap (λ l. left_after l (words_before valid c)) (entries_more port end legal c low) ∙ push (takes_read port c) refl
    where
      push : (b : Bool) → takes_read port c ≡ b → left_after (entries (taken_at port c) ++ only_if b (entry_at port c)) (words_before valid c) ≡ queue c ++ only_if b (entry_at port c)
      push true is =
          left_push (entries (taken_at port c)) (entry_at port c) (words_before valid c) (words_few c low) (All-head HasWords (entry_at port c) [] (asks_some port end legal c low true is))
          ∙ ap (λ q. q ++ entry_at port c ∷ []) (sym (queue_holds c low))
      push false is = ap (λ l. left_after l (words_before valid c)) (append-nil (entries (taken_at port c))) ∙ sym (queue_holds c low) ∙ sym (append-nil (queue c))

  module _ (bound : ℕ) (free : (c : ℕ) → c < end → takes_read port c ≡ true → length (queue c) < bound) where
    with_read : (c : ℕ) → c < end → (q : List Entry) → length q ≤ length (queue c) → length (queue c) ≤ bound → (b : Bool) → takes_read port c ≡ b → length (q ++ only_if b (entry_at port c)) ≤ bound
    with_read c low q fewer few true is = let room = free c low is in let sum = with_one true q (entry_at port c) in omega (arith, room, sum, fewer)
    with_read c low q fewer few false is = let sum = with_one false q (entry_at port c) in omega (arith, sum, fewer, few)

    pub queue_few : (c : ℕ) → c < end → length (queue c) ≤ bound
    queue_few zero low = let begins = ap length queues.begins in omega (arith, begins)
    queue_few (suc c) low =
        let next = ap length (queues.next c low) in
        let fewer = answered_length (is_raised (valid c)) (queue c) in
        let few = with_read c (omega arith) (answered (is_raised (valid c)) (queue c)) fewer (queue_few c (omega arith)) (takes_read port c) refl in
        omega (arith, next, few)

    -- with the read of the cycle too
    pub all_few : (c : ℕ) → c < end → length (queue c ++ only_if (takes_read port c) (entry_at port c)) ≤ bound
    all_few c low = with_read c low (queue c) (omega arith) (queue_few c low) (takes_read port c) refl

    -- so no more reads than the bound are unanswered
    pub unanswered_few : (c : ℕ) → c < end → unreached (map (λ (e : Entry). e.left) (entries (taken_at port (suc c)))) (words_before valid (suc c)) ≤ bound
    unanswered_few c low =
        let grows : words_before valid c ≤ words_before valid (suc c) = (let sum = word_more valid c in omega (arith, sum)) in
        let later = unreached_falls (map (λ (e : Entry). e.left) (entries (taken_at port (suc c)))) (words_before valid c) (words_before valid (suc c)) grows in
        let same = unreached_is (entries (taken_at port (suc c))) (words_before valid c) (all_ask port end legal (suc c) low) ∙ ap length (left_now c low) in
        let few = all_few c low in
        omega (arith, later, same, few)
