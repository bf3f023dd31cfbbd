-- A splitter swallows joined writes without a lane, and what drops beats swallows reads without one, in each cycle.
use Rattle.std.proofs.Common.{ℕ, zero, suc, ◌≡◌, ◌+◌, Bool, true, false, not, ◌&&◌, ◌||◌, [], ◌∷◌, if◌then◌else◌, arith, refl, ap, ap₂, ◌∙◌}
use Rattle.std.proofs.lemmas.Bool.{le-ltb}
use Rattle.histories.specs.History.{is_raised, one_if}
use Rattle.memory_machines.specs.Link.{takes, is_nonempty}
use Rattle.memory_machines.specs.Machines.{raw_at}
use Rattle.memory_links.specs.Driven.{split_above, split_below, split_state, drop_above, drop_below, drop_state}
use Rattle.memory_links.specs.Drops.{RunsAsDrop, Standing, sends, accepted, keeps, owes_itself}
use Rattle.memory_links.specs.Splits.{RunsAsSplit}
use Rattle.memory_awake.specs.Slack.{PassesOn, PassesWhileStill, brings_next}
use Rattle.memory_awake.specs.Ways.{count_in}
use Rattle.runs_tests.specs.LinkRuns.{empty_writes, empty_reads, lost_reads, shows_nothing}

all_in : (test : ℕ → Bool) → ((c : ℕ) → test c ≡ true) → (size : ℕ) → count_in test 0 size ≡ size
all_in test each zero = refl
all_in test each (suc size) = let more = all_in test each size in let one = ap one_if (each (0 + size)) in omega (arith, more, one)

none_in : (test : ℕ → Bool) → ((c : ℕ) → test c ≡ false) → (size : ℕ) → count_in test 0 size ≡ 0
none_in test each zero = refl
none_in test each (suc size) = let more = none_in test each size in let one = ap one_if (each (0 + size)) in omega (arith, more, one)

module _ (run : RunsAsSplit 16 (split_above empty_writes) (split_below empty_writes) (split_state empty_writes)) where
  taken_above : (c : ℕ) → takes (split_above empty_writes) c ≡ true
  taken_above c = run.accepts c

  none_below : (c : ℕ) → takes (split_below empty_writes) c ≡ false
  none_below c = ap (λ s. s && not (is_raised ((split_below empty_writes).commands.waitrequest c))) (run.shown c ∙ le-ltb ((split_state empty_writes).place c) 0 (omega arith))

  pub splitter_swallows : (hold kept : ℕ) → PassesOn (record { hold = hold; kept = kept }) (split_above empty_writes) (split_below empty_writes) (hold + 1) → ⊥
  splitter_swallows hold kept passes =
      let few = passes.beats 0 (hold + 1) (omega arith) in
      let above = all_in (takes (split_above empty_writes)) taken_above (hold + 1) in
      let below = none_in (takes (split_below empty_writes)) none_below (hold + 1) in
      omega (arith, few, above, below)

module _ (run : RunsAsDrop 16 (drop_above empty_reads) (drop_below empty_reads) (drop_state empty_reads)) where
  -- a read without a lane stands
  abbrev stands : Bool → ℕ → Standing
  stands holds reads = record { shown = true; writes = false; acts = false; more = false; holds = holds; reads = reads }

  record IsIdle (c : ℕ) : Type 0 where
    pub kept : (drop_state empty_reads).kept c ≡ []
    pub reads : (drop_state empty_reads).reads c ≡ 0

  not_taken : (c : ℕ) → IsIdle c → takes (drop_below empty_reads) c ≡ false
  not_taken c idle = ap (λ s. s && not (is_raised ((drop_below empty_reads).commands.waitrequest c))) (run.shown c ∙ ap₂ (λ q r. sends 16 (stands (is_nonempty q) r)) idle.kept idle.reads)

  is_idle : (c : ℕ) → IsIdle c
  is_idle zero = record { kept = run.kept_begins; reads = run.reads_begin }
  is_idle (suc c) =
      let idle = is_idle c in
      let none = not_taken c idle in
      let no_read = ap (λ t. one_if (t && not (is_raised ((drop_below empty_reads).commands.write c)))) none in
      let next = run.reads_next c in
      let before = idle.reads in
      record {
        kept = run.kept_next c
            ∙ ap₂ (λ k t. if k then raw_at (drop_above empty_reads) c ∷ [] else if t then [] else (drop_state empty_reads).kept c) (ap₂ (λ q r. keeps (stands (is_nonempty q) r) (takes (drop_below empty_reads) c)) idle.kept idle.reads) none ∙ idle.kept;
        reads = omega (arith, next, no_read, before);
      }

  read_taken : (c : ℕ) → takes (drop_above empty_reads) c ≡ true
  read_taken c = let idle = is_idle c in run.accepts c ∙ ap₂ (λ q r. accepted (stands (is_nonempty q) r) (takes (drop_below empty_reads) c)) idle.kept idle.reads

  word_given : (c : ℕ) → brings_next (drop_above empty_reads) c ≡ true
  word_given c =
      let idle = is_idle c in
      run.valid (suc c) ∙ ap (λ b. b || is_raised ((drop_below empty_reads).answers.valid (suc c))) (run.own_next c ∙ ap₂ (λ q r. owes_itself (stands (is_nonempty q) r) (takes (drop_below empty_reads) c)) idle.kept idle.reads)

  pub drop_swallows : (hold kept : ℕ) → PassesOn (record { hold = hold; kept = kept }) (drop_above empty_reads) (drop_below empty_reads) (hold + 1) → ⊥
  drop_swallows hold kept passes =
      let few = passes.beats 0 (hold + 1) (omega arith) in
      let above = all_in (takes (drop_above empty_reads)) read_taken (hold + 1) in
      let below = none_in (takes (drop_below empty_reads)) (λ c. not_taken c (is_idle c)) (hold + 1) in
      omega (arith, few, above, below)

  pub drop_gives : (hold kept : ℕ) → PassesOn (record { hold = hold; kept = kept }) (drop_above empty_reads) (drop_below empty_reads) (kept + 2) → ⊥
  drop_gives hold kept passes =
      let few = passes.words 0 (kept + 1) (omega arith) in
      let above = all_in (brings_next (drop_above empty_reads)) word_given (kept + 1) in
      let below = none_in (brings_next (drop_below empty_reads)) (λ c. refl) (kept + 1) in
      omega (arith, few, above, below)

pub reads_are_lost : (hold kept : ℕ) → PassesWhileStill (record { hold = hold; kept = kept }) lost_reads lost_reads shows_nothing (hold + 1) → ⊥
reads_are_lost hold kept passes =
    let few = passes.beats 0 (hold + 1) (omega arith) (λ c low high. refl) in
    let above = all_in (takes lost_reads) (λ c. refl) (hold + 1) in
    let below = none_in (takes shows_nothing) (λ c. refl) (hold + 1) in
    omega (arith, few, above, below)
