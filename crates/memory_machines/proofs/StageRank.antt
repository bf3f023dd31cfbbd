-- The rank of a stage: at most 1 for commands alone, and at most 2 with its answers.
use Rattle.std.proofs.Common.{ℕ, suc, ◌<◌, ◌≤◌, ◌≡◌, [], ◌∷◌, ◌++◌, List, Bool, true, false, not, ◌&&◌, ◌||◌, IsTrue, arith, refl, sym, ap, ap₂, ◌∙◌, append-nil, subst, length, nat_lt, le_refl, ltb-true, lt-ltb}
use Rattle.std.proofs.lemmas.Bool.{le-ltb, both_ways, or_parts, not-true}
use Rattle.histories.specs.Laws.{shown_is_accepted_and_standing, prefix_length, before_extends}
use Rattle.memory_machines.proofs.Stage.{taken_split}
use Rattle.memory_machines.proofs.StageLink.{words_later}
use Rattle.histories.specs.History.{one_if, only_if, is_raised}
use Rattle.memory_runs.specs.Views.{Shape}
use Rattle.memory_machines.specs.Paths.{CommandView, AnswerView}
use Rattle.memory_runs.specs.Commands.{shows, is_held}
use Rattle.memory_machines.specs.Link.{Target, Port, AreLegalAt, takes, marked_at, shown_at, taken_at, operations_among, read_beats, words_at, is_last_joined, words_owed}
use Rattle.memory_machines.specs.Machines.{Raw, raws, idle, marked, burst_of, ShowsHead, IsStageRun, port_of, owing_rank}
use Rattle.memory_machines.specs.Rank.{is_excused, is_owed, is_writing, is_last_write, may_rest, LinkRankFalls, has_commands}
use Rattle.memory_machines.specs.SideLaws.{marked_keeps}

none_of : (a b d : Bool) → not (a || b || d) ≡ true → (a ≡ false) × (b ≡ false) × (d ≡ false)
none_of true b d e = cc
none_of false true d e = cc
none_of false false true e = cc
none_of false false false e = (refl, refl, refl)

-- what is left open isn't excused only while its word has come below and not above
open_owes : (op lw o above : Bool) → op ≡ true → (o && not (op && lw)) ≡ false → (op && true && (lw || not above)) ≡ false → (o ≡ false) × (above ≡ true)
open_owes true true o above w e f = cc
open_owes true false true above w e f = cc
open_owes true false false true w e f = (refl, refl)
open_owes true false false false w e f = cc
open_owes false lw o above w e f = cc

third_left : (a b d : Bool) → (a || b || d) ≡ true → a ≡ false → b ≡ false → d ≡ true
third_left true b d w na nb = cc
third_left false true d w na nb = cc
third_left false false d w na nb = w

fewer_owed : (k m n : ℕ) → k ≤ m → one_if (nat_lt m n) ≤ one_if (nat_lt k n)
fewer_owed k m n h = by_test (nat_lt m n) refl
  where
    by_test : (b : Bool) → nat_lt m n ≡ b → one_if b ≤ one_if (nat_lt k n)
    by_test false e = omega arith
    by_test true e = let less = ltb-true m n e in let there : nat_lt k n ≡ true = lt-ltb k n (omega (arith, h, less)) in rw there (le_refl 1)

not_shown : (s w : Bool) → w ≡ false → (s && not w) ≡ false → s ≡ false
not_shown true true e taken = cc
not_shown true false e taken = cc
not_shown false w e taken = refl

at_most_one : (b : Bool) → one_if b ≤ 1
at_most_one true = le_refl 1
at_most_one false = omega arith

module _ (depth : ℕ) (shape : Shape) (uc dc : CommandView) (ua da : AnswerView) (queue : ℕ → List Raw) (run : IsStageRun depth (port_of shape uc ua) (port_of shape dc da) queue)
    (some : 0 < depth) (opens : (c : ℕ) → length (queue c) < depth → is_raised (uc.waitrequest c) ≡ false) (target : Target) (end : ℕ) (legal : AreLegalAt (port_of shape uc ua) end) where
  abbrev up : Port
  up = port_of shape uc ua

  abbrev down : Port
  down = port_of shape dc da

  -- with an empty queue and nothing shown above, all that was shown above is taken below
  all_taken : (c : ℕ) → c < end → queue c ≡ [] → takes up c ≡ false → takes down c ≡ false → shows uc.signals c ≡ false → shown_at up (suc c) ≡ taken_at down (suc c)
  all_taken c h none not_up not_down quiet =
      shown_is_accepted_and_standing (shows uc.signals) (takes up) (marked_at up) end (suc c) (marked_keeps up end legal) h
      ∙ ap₂ (λ s t. (taken_at up c ++ only_if t (marked_at up c)) ++ only_if (s && not t) (marked_at up c)) quiet not_up ∙ append-nil (taken_at up c ++ []) ∙ append-nil (taken_at up c)
      ∙ taken_split depth shape uc dc ua da queue run c ∙ ap (λ q. taken_at down c ++ marked shape (burst_of shape idle (raws down c)) q) none
      ∙ ap (λ t. taken_at down c ++ only_if t (marked_at down c)) (sym not_down)

  -- then all that was taken above is taken below
  both_taken : (c : ℕ) → queue c ≡ [] → takes up c ≡ false → takes down c ≡ false → taken_at up (suc c) ≡ taken_at down (suc c)
  both_taken c none not_up not_down =
      ap (λ t. taken_at up c ++ only_if t (marked_at up c)) not_up ∙ append-nil (taken_at up c) ∙ taken_split depth shape uc dc ua da queue run c
      ∙ ap (λ q. taken_at down c ++ marked shape (burst_of shape idle (raws down c)) q) none ∙ ap (λ t. taken_at down c ++ only_if t (marked_at down c)) (sym not_down)

  quiet_above : (c : ℕ) → queue c ≡ [] → takes up c ≡ false → shows uc.signals c ≡ false
  quiet_above c none taken =
      let room : length (queue c) < depth = subst (λ q. length q < depth) (sym none) some in
      not_shown (shows uc.signals c) (is_raised (uc.waitrequest c)) (opens c room) taken

  none_held : (c : ℕ) → shows uc.signals c ≡ false → is_held uc.signals (takes up) c ≡ false
  none_held c quiet = ap (λ s. s && not (takes up c)) quiet

  none_untaken : (c : ℕ) → c < end → queue c ≡ [] → takes up c ≡ false → takes down c ≡ false → shows uc.signals c ≡ false →
      nat_lt (length (operations_among target shape (taken_at down (suc c)))) (length (operations_among target shape (shown_at up (suc c)))) ≡ false
  none_untaken c h none not_up not_down quiet =
      ap (λ l. nat_lt (length (operations_among target shape (taken_at down (suc c)))) (length (operations_among target shape l))) (all_taken c h none not_up not_down quiet) ∙ le-ltb _ _ (le_refl _)

  -- the head of the queue stands below
  stands : (c : ℕ) (raw : Raw) (later : List Raw) → ShowsHead down c (raw ∷ later) → takes down c ≡ false → IsTrue (not (is_excused up down c)) → ⊥
  stands c raw later head not_down wants =
      let rests = none_of (is_held dc.signals (takes down) c) (is_owed down c && not (is_writing down c)) (may_rest up c) wants in
      let held : is_held dc.signals (takes down) c ≡ true = ap₂ (λ s t. s && not t) head.0 not_down in
      both_ways (is_held dc.signals (takes down) c) rests.0 held

  pub stage_falls : LinkRankFalls target up down (owing_rank down) 1 end
  stage_falls = record {
    bounded = λ c h. at_most_one (nat_lt (length (words_at down c)) (words_owed down c));
    falls = λ c h work still wants. falls c h work (or_parts (takes down c) (takes up c) (not-true (takes down c || takes up c) still)) wants (queue c) refl (run.heads c);
    stays = λ c h work still. stays c (or_parts (takes down c) (takes up c) (not-true (takes down c || takes up c) still)).0;
  }
    where
      same_taken : (c : ℕ) → takes down c ≡ false → taken_at down (suc c) ≡ taken_at down c
      same_taken c none = ap (λ t. taken_at down c ++ only_if t (marked_at down c)) none ∙ append-nil (taken_at down c)

      falls : (c : ℕ) → c < end → IsTrue (has_commands target up down c) → (takes down c ≡ false) × (takes up c ≡ false) → IsTrue (not (is_excused up down c)) → (q : List Raw) → queue c ≡ q → ShowsHead down c q → owing_rank down (suc c) < owing_rank down c
      falls c h work still wants (raw ∷ later) is head = absurd (stands c raw later head still.0 wants)
      falls c h work still wants [] is head =
          let quiet = quiet_above c is still.1 in
          let taken = both_taken c is still.1 still.0 in
          let rests = none_of (is_held dc.signals (takes down) c) (is_owed down c && not (is_writing down c)) (may_rest up c) wants in
          let unclosed = third_left (is_held uc.signals (takes up) c) (nat_lt (length (operations_among target shape (taken_at down (suc c)))) (length (operations_among target shape (shown_at up (suc c))))) (is_last_joined (taken_at down (suc c))) work
          (none_held c quiet) (none_untaken c h is still.1 still.0 quiet) in
          let owes = open_owes (is_last_joined (taken_at down (suc c))) (is_last_write (taken_at down (suc c))) (is_owed down c) (is_owed up c) unclosed rests.1
          (ap (λ l. is_last_joined l && true && (is_last_write l || not (is_owed up c))) (sym taken)
          ∙ ap (λ s. is_last_joined (taken_at up (suc c)) && not s && (is_last_write (taken_at up (suc c)) || not (is_owed up c))) (sym quiet) ∙ rests.2) in
          let before : nat_lt (length (words_at down c)) (words_owed down c) ≡ true =
          ap₂ (λ w l. nat_lt (length w) (length (read_beats l))) (sym (words_later depth shape uc dc ua da queue run c)) (sym (taken ∙ same_taken c still.0)) ∙ owes.1 in
          let now : owing_rank down (suc c) ≡ 0 = ap one_if owes.0 in
          let earlier : owing_rank down c ≡ 1 = ap one_if before in
          omega (arith, now, earlier)

      stays : (c : ℕ) → takes down c ≡ false → owing_rank down (suc c) ≤ owing_rank down c
      stays c none =
          let grows = prefix_length (before_extends (λ k. only_if (is_raised (da.valid k)) (record { word = da.word k; code = da.code k })) c) in
          subst (λ l. one_if (nat_lt (length (words_at down (suc c))) (length (read_beats l))) ≤ owing_rank down c) (sym (same_taken c none))
          (fewer_owed (length (words_at down c)) (length (words_at down (suc c))) (words_owed down c) grows)
