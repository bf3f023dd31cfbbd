-- What stands in a pipe is taken below in time, and words come up through it.
use Rattle.std.proofs.Common.{◌≡◌, ℕ, zero, suc, ◌+◌, ◌-◌, ◌*◌, ◌<◌, ◌≤◌, Bool, true, false, List, [], ◌∷◌, ◌++◌, length, nat_eq, arith, refl, sym, ap, ◌∙◌, subst, IsTrue, IsFalse, inl, inr, ◌⊎◌, tests, length-append, append-nil}
use Rattle.histories.specs.History.{IsPrefix, is_raised, only_if}
use Rattle.histories.specs.Laws.{prefix_refl, prefix_trans, prefix_length, before_prefix}
use Rattle.memory_runs.specs.Commands.{shows}
use Rattle.memory_machines.specs.Link.{Port, takes, taken_at, marked_at, words_at}
use Rattle.memory_machines.specs.Lines.{TaggedPort}
use Rattle.memory_machines.specs.Machines.{Raw, Stage, above, below, RunsAsStage, ShowsHead}
use Rattle.memory_awake.specs.Theorem.{IsStageBetween}
use Rattle.memory_waits.specs.Waits.{pipe_time}
use Rattle.memory_waits.proofs.Bits.{none_taken, one_taken, some_or_none}
use Rattle.memory_waits.proofs.Stages.{IsPaced, sized, queued, held_few}

-- of two fronts of a list, the shorter one is a front of the longer one
pub shorter_front : {A : Type 0} (xs ys zs : List A) → IsPrefix xs zs → IsPrefix ys zs → length xs ≤ length ys → IsPrefix xs ys
shorter_front [] ys zs p q h = record { rest = ys; joins = refl }
shorter_front (x ∷ xs) [] zs p q h = absurd (omega (arith, h))
shorter_front {A} (x ∷ xs) (y ∷ ys) zs p q h =
    let pj = p.joins in
    let qj = q.joins in
    let tail : xs ++ p.rest ≡ ys ++ q.rest = cc in
    let head : x ≡ y = cc in
    let more = shorter_front xs ys (ys ++ q.rest) (record { rest = p.rest; joins = tail }) (record { rest = q.rest; joins = refl }) (omega (arith, h)) in
    let mj = more.joins in
    record { rest = more.rest; joins = cc }

-- how many beats a port has taken
abbrev pub beats_by : Port → ℕ → ℕ
beats_by port c = length (taken_at port c)

pub beats_grow : (port : Port) (c d : ℕ) → c ≤ d → beats_by port c ≤ beats_by port d
beats_grow port c d h = prefix_length (before_prefix (λ k. only_if (takes port k) (marked_at port k)) c d h)

one_more : (port : Port) (c : ℕ) → IsTrue (takes port c) → beats_by port (suc c) ≡ beats_by port c + 1
one_more port c took = ap length (one_taken port c took) ∙ length-append (taken_at port c) (marked_at port c ∷ [])

no_more : (port : Port) (c : ℕ) → IsFalse (takes port c) → beats_by port (suc c) ≡ beats_by port c
no_more port c none = ap length (none_taken port c none)

pub one_word : (port : Port) (c : ℕ) → IsTrue (is_raised (port.answers.valid c)) → length (words_at port (suc c)) ≡ length (words_at port c) + 1
one_word port c h = rw h (length-append (words_at port c) _)

pub no_word : (port : Port) (c : ℕ) → IsFalse (is_raised (port.answers.valid c)) → length (words_at port (suc c)) ≡ length (words_at port c)
no_word port c h = rw h (ap length (append-nil (words_at port c)))

-- ---- a beat is taken within the pace of what lies below

module _ (port : Port) (good : ℕ → Bool) (rank : ℕ → ℕ) (pace end : ℕ) (paced : IsPaced port good rank pace end) where
  taken_soon : (t : ℕ) → t + pace + 1 ≤ end → ((k : ℕ) → t ≤ k → k < t + pace + 1 → IsTrue (shows port.commands.signals k)) → ((k : ℕ) → t ≤ k → k < t + pace + 1 → IsTrue (good k)) →
      beats_by port t + 1 ≤ beats_by port (t + pace + 1)
  taken_soon t fit shown fine = elim (some_or_none (λ j. takes port (t + j)) (pace + 1)) [
    | inl found ↦
        let here = one_more port (t + found.0) found.2 in
        let first = beats_grow port t (t + found.0) (omega arith) in
        let less = found.1 in
        let last = beats_grow port (suc (t + found.0)) (t + pace + 1) (omega (arith, less)) in
        omega (arith, here, first, last)
    | inr none ↦
        let low = falls none (pace + 1) (omega arith) in
        let most = paced.bounded t (omega (arith, fit)) in
        absurd (omega (arith, low, most))
  ]
    where
      falls : ((j : ℕ) → j < pace + 1 → IsFalse (takes port (t + j))) → (n : ℕ) → n ≤ pace + 1 → rank (t + n) + n ≤ rank t
      falls none zero h = let same : t + 0 ≡ t = omega arith in rw same (omega arith)
      falls none (suc n) h =
          let more = falls none n (omega (arith, h)) in
          let less = paced.falls (t + n) (omega (arith, h, fit)) (shown (t + n) (omega arith) (omega (arith, h))) (none n (omega (arith, h))) (fine (t + n) (omega arith) (omega (arith, h))) in
          let same : t + suc n ≡ suc (t + n) = omega arith in
          rw same (omega (arith, more, less))

-- ---- a stage

module _ (stage : Stage) (runs : RunsAsStage stage) where
  -- what was taken above and not below is in the queue
  balance : (c : ℕ) → beats_by (above stage) c ≡ beats_by (below stage) c + length (stage.queue c)
  balance zero = let none = ap length runs.begins in omega (arith, none)
  balance (suc c) = by_both (takes (below stage) c) (takes (above stage) c) refl refl (balance c)
    where
      by_both : (d u : Bool) → takes (below stage) c ≡ d → takes (above stage) c ≡ u → beats_by (above stage) c ≡ beats_by (below stage) c + length (stage.queue c) →
          beats_by (above stage) (suc c) ≡ beats_by (below stage) (suc c) + length (stage.queue (suc c))
      by_both true true ed eu more =
          let g = sized stage runs c true true ed eu in
          let some = queued stage runs c (stage.queue c) (runs.heads c) ed in
          let one = one_more (above stage) c eu in
          let two = one_more (below stage) c ed in
          omega (arith, g, some, one, two, more)
      by_both true false ed eu more =
          let g = sized stage runs c true false ed eu in
          let some = queued stage runs c (stage.queue c) (runs.heads c) ed in
          let one = no_more (above stage) c eu in
          let two = one_more (below stage) c ed in
          omega (arith, g, some, one, two, more)
      by_both false true ed eu more =
          let g = sized stage runs c false true ed eu in
          let one = one_more (above stage) c eu in
          let two = no_more (below stage) c ed in
          omega (arith, g, one, two, more)
      by_both false false ed eu more =
          let g = sized stage runs c false false ed eu in
          let one = no_more (above stage) c eu in
          let two = no_more (below stage) c ed in
          omega (arith, g, one, two, more)

  head_shown : (c : ℕ) (queue : List Raw) → ShowsHead (below stage) c queue → 0 < length queue → IsTrue (shows (below stage).commands.signals c)
  head_shown c [] is more = absurd (omega (arith, more))
  head_shown c (raw ∷ later) is more = is.0

  -- a word comes up a cycle later
  words_later : (c : ℕ) → length (words_at (above stage) (suc c)) ≡ length (words_at (below stage) c)
  words_later zero = no_word (above stage) 0 runs.quiet
  words_later (suc c) = by_valid (is_raised ((below stage).answers.valid c)) refl (ap is_raised (runs.valid c)) (words_later c)
    where
      by_valid : (b : Bool) → is_raised ((below stage).answers.valid c) ≡ b → is_raised ((above stage).answers.valid (suc c)) ≡ is_raised ((below stage).answers.valid c) → length (words_at (above stage) (suc c)) ≡ length (words_at (below stage) c) →
          length (words_at (above stage) (suc (suc c))) ≡ length (words_at (below stage) (suc c))
      by_valid true e same more =
          let one = one_word (above stage) (suc c) (same ∙ e) in
          let two = one_word (below stage) c e in
          omega (arith, one, two, more)
      by_valid false e same more =
          let one = no_word (above stage) (suc c) (same ∙ e) in
          let two = no_word (below stage) c e in
          omega (arith, one, two, more)

  module _ (few : stage.depth ≤ 2) (good : ℕ → Bool) (rank : ℕ → ℕ) (pace end : ℕ) (paced : IsPaced (below stage) good rank pace end) where
    -- within so many paces all that was taken above is taken below, or so many beats are
    flushes : (t from size : ℕ) → t ≤ from → size ≡ from + pace + 1 → size ≤ end → ((k : ℕ) → from ≤ k → k < size → IsTrue (good k)) → (n : ℕ) →
        (beats_by (above stage) t ≤ beats_by (below stage) from) ⊎ (beats_by (below stage) t + n ≤ beats_by (below stage) from) →
        (beats_by (above stage) t ≤ beats_by (below stage) size) ⊎ (beats_by (below stage) t + suc n ≤ beats_by (below stage) size)
    flushes t from size first is fit fine n (inl all) = inl (let more = beats_grow (below stage) from size (omega (arith, is)) in omega (arith, all, more))
    flushes t from size first is fit fine n (inr some) = elim (some_or_none (λ j. nat_eq (length (stage.queue (from + j))) 0) (pace + 1)) [
      | inl found ↦
          let empty : length (stage.queue (from + found.0)) ≡ 0 = by_test _ found.2 in
          let even = balance (from + found.0) in
          let up = beats_grow (above stage) t (from + found.0) (omega (arith, first)) in
          let less = found.1 in
          let down = beats_grow (below stage) (from + found.0) size (omega (arith, is, less)) in
          inl (omega (arith, empty, even, up, down))
      | inr none ↦
          let one = taken_soon (below stage) good rank pace end paced from (omega (arith, is, fit))
          (λ k low high. head_shown k (stage.queue k) (runs.heads k) (is_some k low high (none (way k low) (omega (arith, high, reach k low)))))
          (λ k low high. fine k low (omega (arith, is, high))) in
          inr (let same : from + pace + 1 ≡ size = omega (arith, is) in let at_end : beats_by (below stage) from + 1 ≤ beats_by (below stage) size = subst (λ n. beats_by (below stage) from + 1 ≤ beats_by (below stage) n) same one in omega (arith, some, at_end))
    ]
      where
        by_test : (n : ℕ) → IsTrue (nat_eq n 0) → n ≡ 0
        by_test n h = grind (arith, tests, h)

        way : (k : ℕ) → from ≤ k → ℕ
        way k low = k - from

        reach : (k : ℕ) (low : from ≤ k) → from + way k low ≡ k
        reach k low = omega (arith, low)

        is_some : (k : ℕ) (low : from ≤ k) → k < from + pace + 1 → IsFalse (nat_eq (length (stage.queue (from + way k low))) 0) → 0 < length (stage.queue k)
        is_some k low high none = let same = reach k low in let here : IsFalse (nat_eq (length (stage.queue k)) 0) = subst (λ x. IsFalse (nat_eq (length (stage.queue x)) 0)) same none in grind (arith, tests, here)

    pub stage_flushes : (t : ℕ) → t + 2 * (pace + 1) ≤ end → ((k : ℕ) → t ≤ k → k < t + 2 * (pace + 1) → IsTrue (good k)) → beats_by (above stage) t ≤ beats_by (below stage) (t + 2 * (pace + 1))
    stage_flushes t fit fine = elim (flushes t (t + pace + 1) (t + 2 * (pace + 1)) (omega arith) (omega arith) fit (λ k low high. fine k (omega (arith, low)) high) 1
        (flushes t t (t + pace + 1) (omega arith) refl (omega (arith, fit)) (λ k low high. fine k low (omega (arith, high))) 0 (inr (omega arith)))) [
          | inl all ↦ all
          | inr two ↦ let even = balance t in let most = held_few stage runs t in omega (arith, two, even, most, few)
        ]

-- ---- a pipe

module _ (lower : ℕ → TaggedPort) (stage : ℕ → Stage) (stages : ℕ) (between : (i : ℕ) → i < stages → IsStageBetween (stage i) (lower (suc i)) (lower i)) where
  pub pipe_words : (i c : ℕ) → i ≤ stages → length (words_at (lower i).port (c + i)) ≡ length (words_at (lower 0).port c)
  pipe_words zero c low = let same : c + 0 ≡ c = omega arith in ap (λ k. length (words_at (lower 0).port k)) same
  pipe_words (suc i) c low =
      let more = pipe_words i c (omega (arith, low)) in
      let is = between i low in
      let later = words_later (stage i) is.runs (c + i) in
      let here : length (words_at (lower (suc i)).port (suc (c + i))) ≡ length (words_at (lower i).port (c + i)) = ap (λ p. length (words_at p (suc (c + i)))) (sym is.up_is) ∙ later ∙ ap (λ p. length (words_at p (c + i))) is.down_is in
      let same : c + suc i ≡ suc (c + i) = omega arith in
      ap (λ k. length (words_at (lower (suc i)).port k)) same ∙ here ∙ more

  -- the lowest port has taken no other beats than the highest
  pub pipe_front : ((i c : ℕ) → i < stages → IsPrefix (taken_at (lower i).port c) (taken_at (lower (suc i)).port c)) → (i c : ℕ) → i ≤ stages → IsPrefix (taken_at (lower 0).port c) (taken_at (lower i).port c)
  pipe_front one zero c low = prefix_refl _
  pipe_front one (suc i) c low = prefix_trans (pipe_front one i c (omega (arith, low))) (one i c low)

  module _ (good : ℕ → Bool) (wait end : ℕ) (paced : (i : ℕ) → i ≤ stages → (r : ℕ → ℕ) × IsPaced (lower i).port good r ((wait + 1) + i) end) where
    pub pipe_flushes : (i t : ℕ) → i ≤ stages → t + pipe_time wait i ≤ end → ((k : ℕ) → t ≤ k → k < t + pipe_time wait i → IsTrue (good k)) → beats_by (lower i).port t ≤ beats_by (lower 0).port (t + pipe_time wait i)
    pipe_flushes zero t low fit fine = beats_grow (lower 0).port t (t + 0) (omega arith)
    pipe_flushes (suc i) t low fit fine =
        let is = between i low in
        let under = paced i (omega (arith, low)) in
        let here = stage_flushes (stage i) is.runs is.few good under.0 ((wait + 1) + i) end (subst (λ p. IsPaced p good under.0 ((wait + 1) + i) end) (sym is.down_is) under.1) t (omega (arith, fit)) (λ k first last. fine k first (omega (arith, last))) in
        let same : 2 * (((wait + 1) + i) + 1) ≡ 2 * (wait + i + 2) = omega arith in
        let one : beats_by (lower (suc i)).port t ≤ beats_by (lower i).port (t + 2 * (((wait + 1) + i) + 1)) = subst (λ p. beats_by (lower (suc i)).port t ≤ beats_by p (t + 2 * (((wait + 1) + i) + 1))) is.down_is (subst (λ p. beats_by p t ≤ beats_by (below (stage i)) (t + 2 * (((wait + 1) + i) + 1))) is.up_is here) in
        let more = pipe_flushes i (t + 2 * (((wait + 1) + i) + 1)) (omega (arith, low)) (omega (arith, fit)) (λ k first last. fine k (omega (arith, first)) (omega (arith, last))) in
        let whole : (t + 2 * (((wait + 1) + i) + 1)) + pipe_time wait i ≡ t + (pipe_time wait i + 2 * (wait + i + 2)) = omega (arith, same) in
        let all : beats_by (lower i).port (t + 2 * (((wait + 1) + i) + 1)) ≤ beats_by (lower 0).port (t + (pipe_time wait i + 2 * (wait + i + 2))) = subst (λ k. beats_by (lower i).port (t + 2 * (((wait + 1) + i) + 1)) ≤ beats_by (lower 0).port k) whole more in
        omega (arith, one, all)
