-- A stage holds back no more beats than its queue holds, and one word.
use Rattle.std.proofs.Common.{ℕ, zero, suc, ◌≤◌, ◌≡◌, ◌+◌, Bool, true, false, List, [], ◌∷◌, ◌++◌, arith, refl, sym, ap, ◌∙◌, length, drop, if◌then◌else◌, length-append}
use Rattle.histories.specs.History.{is_raised, one_if, only_if}
use Rattle.memory_machines.specs.Link.{Port, takes}
use Rattle.memory_machines.specs.Machines.{Raw, raw_at, Stage, above, below, RunsAsStage, ShowsHead}
use Rattle.memory_runs.specs.Commands.{shows}
use Rattle.std.proofs.lemmas.Bool.{and_parts}
use Rattle.memory_awake.specs.Ways.{count_in}
use Rattle.memory_awake.specs.Slack.{PassesOn, brings_next}
use Rattle.memory_awake.proofs.Bits.{no_true}

pub wire_passes : (port : Port) (end : ℕ) → PassesOn (record { hold = 0; kept = 0 }) port port end
wire_passes port end = record { beats = λ from size h. omega arith; words = λ from size h. omega arith }

pub one_or_none : (b : Bool) → one_if b ≤ 1
one_or_none true = omega arith
one_or_none false = omega arith

one_added : {A : Type 0} (b : Bool) (x : A) → length (only_if b x) ≡ one_if b
one_added {A} true x = refl
one_added {A} false x = refl

-- a test of the next cycle, counted, is a test of this one but for the ends
shifted : (next now : ℕ → Bool) → ((c : ℕ) → next (suc c) ≡ now c) → (from size : ℕ) → count_in next (suc from) size ≡ count_in now from size
shifted next now same from zero = refl
shifted next now same from (suc size) =
    let more = shifted next now same from size in
    let last = ap one_if (same (from + size)) in
    let moved : suc from + size ≡ suc (from + size) = omega arith in
    let there = ap (λ k. one_if (next k)) moved in
    omega (arith, more, last, there)

one_longer : (test : ℕ → Bool) (from size : ℕ) → count_in test (suc from) size + one_if (test from) ≡ count_in test from (suc size)
one_longer test from zero = let same : from + 0 ≡ from = omega arith in let here = ap (λ k. one_if (test k)) same in omega (arith, here)
one_longer test from (suc size) =
    let more = one_longer test from size in
    let moved : suc from + size ≡ from + suc size = omega arith in
    let there = ap (λ k. one_if (test k)) moved in
    omega (arith, more, there)

later_most : (test : ℕ → Bool) (from size : ℕ) → count_in test from size ≤ count_in test (suc from) size + 1
later_most test from size =
    let longer = one_longer test from size in
    let first = one_or_none (test from) in
    omega (arith, longer, first)

module _ (stage : Stage) (runs : RunsAsStage stage) where
  abbrev up : Port
  up = above stage

  abbrev down : Port
  down = below stage

  abbrev held : ℕ → ℕ
  held c = length (stage.queue c)

  one_step : (c : ℕ) → held (suc c) + one_if (takes down c) ≡ held c + one_if (takes up c)
  one_step c = by_take (takes down c) refl (stage.queue c) refl (runs.heads c)
    where
      by_take : (t : Bool) → takes down c ≡ t → (q : List Raw) → stage.queue c ≡ q → ShowsHead down c q → held (suc c) + one_if (takes down c) ≡ held c + one_if (takes up c)
      by_take false e q eq heads =
          let next = ap length (runs.next c ∙ ap (λ t. drop (if t then 1 else 0) (stage.queue c) ++ only_if (takes up c) (raw_at up c)) e) ∙ length-append (stage.queue c) (only_if (takes up c) (raw_at up c)) in
          let one = one_added (takes up c) (raw_at up c) in
          let none = ap one_if e in
          omega (arith, next, one, none)
      by_take true e [] eq heads = absurd (no_true (sym heads ∙ (and_parts (shows down.commands.signals c) _ e).0))
      by_take true e (r ∷ later) eq heads =
          let next = ap length (runs.next c ∙ ap (λ t. drop (if t then 1 else 0) (stage.queue c) ++ only_if (takes up c) (raw_at up c)) e ∙ ap (λ q. drop 1 q ++ only_if (takes up c) (raw_at up c)) eq) ∙ length-append later (only_if (takes up c) (raw_at up c)) in
          let one = one_added (takes up c) (raw_at up c) in
          let some = ap one_if e in
          let long = ap length eq in
          omega (arith, next, one, some, long)

  in_balance : (from size : ℕ) → held (from + size) + count_in (takes down) from size ≡ held from + count_in (takes up) from size
  in_balance from zero = let same : from + 0 ≡ from = omega arith in let here = ap held same in omega (arith, here)
  in_balance from (suc size) =
      let more = in_balance from size in
      let step = one_step (from + size) in
      let moved : from + suc size ≡ suc (from + size) = omega arith in
      let there = ap held moved in
      omega (arith, more, step, there)

  few_held : (c : ℕ) → held c ≤ stage.depth
  few_held zero = let none = ap length runs.begins in omega (arith, none)
  few_held (suc c) = by_take (takes up c) refl (few_held c)
    where
      by_take : (t : Bool) → takes up c ≡ t → held c ≤ stage.depth → held (suc c) ≤ stage.depth
      by_take true e few = let room = runs.room c e in let step = one_step c in let one = ap one_if e in omega (arith, room, step, one)
      by_take false e few = let step = one_step c in let none = ap one_if e in omega (arith, few, step, none)

  same_words : (c : ℕ) → brings_next up c ≡ is_raised (down.answers.valid c)
  same_words c = ap is_raised (runs.valid c)

pub stage_passes : (stage : Stage) → RunsAsStage stage → (end : ℕ) → PassesOn (record { hold = stage.depth; kept = 1 }) (above stage) (below stage) end
stage_passes stage runs end = record {
  beats = λ from size h. let all = in_balance stage runs from size in let few = few_held stage runs (from + size) in few_above from size all few;
  words = λ from size h.
      let same = counts_same from size in
      let most = later_most (λ c. is_raised ((below stage).answers.valid c)) from size in
      let moved = shifted_down from size in
      omega (arith, same, most, moved);
}
  where
    few_above : (from size : ℕ) → length (stage.queue (from + size)) + count_in (takes (below stage)) from size ≡ length (stage.queue from) + count_in (takes (above stage)) from size → length (stage.queue (from + size)) ≤ stage.depth →
        count_in (takes (above stage)) from size ≤ count_in (takes (below stage)) from size + stage.depth
    few_above from size all few = omega (arith, all, few)

    counts_same : (from size : ℕ) → count_in (brings_next (above stage)) from size ≡ count_in (λ c. is_raised ((below stage).answers.valid c)) from size
    counts_same from zero = refl
    counts_same from (suc size) = let more = counts_same from size in let last = ap one_if (same_words stage runs (from + size)) in omega (arith, more, last)

    shifted_down : (from size : ℕ) → count_in (λ c. is_raised ((below stage).answers.valid c)) (suc from) size ≡ count_in (brings_next (below stage)) from size
    shifted_down from size = shifted (λ c. is_raised ((below stage).answers.valid c)) (brings_next (below stage)) (λ c. refl) from size
