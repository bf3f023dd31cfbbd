-- A link that answers promptly gives what has come.
use Rattle.std.proofs.Common.{ℕ, suc, ◌≤◌, ◌≡◌, Bool, true, false, ◌||◌, ◌&&◌, arith, refl, sym, ap, subst, ◌∙◌, nat_lt, nat_le, length, take, IsTrue, IsFalse, ltb-true, ltb-false, le-leb}
use Rattle.std.proofs.lemmas.Bool.{or_left, or_right, and_parts}
use Rattle.std.proofs.lemmas.List.{take-append-le}
use Rattle.histories.specs.History.{IsPrefix, is_raised}
use Rattle.histories.specs.Laws.{prefix_flat_map, prefix_filter}
use Rattle.memory_machines.specs.Link.{Target, Port, AreLegalAt, items, takes, taken_at, shown_at, operations_among, words_at, words_owed, read_beats, reads_of, answers_at, has_word_ready}
use Rattle.memory_runs.specs.Commands.{is_held}
use Rattle.memory_machines.specs.Rank.{moves_commands, is_owed, is_due, AnswersPromptly}
use Rattle.memory_links.specs.Going.{GivesWhatHasCome, is_untaken}
use Rattle.memory_machines.specs.SideLaws.{taken_is_shown}
use Rattle.memory_awake.proofs.Bits.{no_true}
use Rattle.memory_awake.proofs.Beats.{both}

pub record Laws : Type 0 where
  pub flow : (target : Target) (up down : Port) (end c : ℕ) → AreLegalAt up end → AreLegalAt down end → suc c ≤ end → IsPrefix (items target down (suc c)) (items target up (suc c)) → IsTrue (is_owed up c) →
      IsTrue (nat_lt (length (operations_among target down.shape (taken_at down (suc c)))) (length (operations_among target up.shape (shown_at up (suc c)))) || has_word_ready target up down (suc c) || is_owed down c)

pub prompt_gives : Laws → (target : Target) (up down : Port) (end : ℕ) → AreLegalAt up end → AreLegalAt down end → ((c : ℕ) → c ≤ end → IsPrefix (items target down c) (items target up c)) → AnswersPromptly target up down end → GivesWhatHasCome target up down end
prompt_gives laws target up down end legal_up legal_down order prompt c h owed =
    or_beat (is_untaken target up down c) (is_held down.commands.signals (takes down) c) (moves_commands up down c) (is_raised (up.answers.valid (suc c))) (is_owed down c) (by_owed (is_owed down c) refl (laws.flow target up down end c legal_up legal_down (omega (arith, h)) (order (suc c) (omega (arith, h))) owed))
  where
    or_beat : (u d m v o : Bool) → IsTrue (u || v || o) → IsTrue ((u || d) || (m || v) || o)
    or_beat true d m v o h = refl
    or_beat false true m v o h = refl
    or_beat false false true v o h = refl
    or_beat false false false v o h = h

    given : ℕ
    given = length (words_at up (suc c))

    due : IsTrue (has_word_ready target up down (suc c)) → IsFalse (is_owed down c) → IsTrue (is_due target up down (suc c))
    due ready nothing =
        let p = prefix_flat_map _ (prefix_filter _ (taken_is_shown up end (suc c) legal_up (omega (arith, h)))) in
        let less = ltb-true (length (words_at up (suc c))) (words_owed up (suc c)) owed in
        let same : take (suc (length (words_at up (suc c)))) (read_beats (shown_at up (suc c))) ≡ take (suc (length (words_at up (suc c)))) (read_beats (taken_at up (suc c))) =
        ap (take (suc (length (words_at up (suc c))))) (sym p.joins) ∙ take-append-le (suc (length (words_at up (suc c)))) (read_beats (taken_at up (suc c))) p.rest (omega (arith, less)) in
        let come = (and_parts (nat_lt (length (words_at up (suc c))) (length (read_beats (shown_at up (suc c))))) _ ready).1 in
        let all = ltb-false (length (words_at down (suc c))) (words_owed down (suc c)) nothing in
        both (nat_lt (length (words_at up (suc c))) (length (read_beats (taken_at up (suc c)))) && _) _
        (both _ _ owed (subst (λ l. IsTrue (nat_le (reads_of target up.shape l) (length (answers_at target down (suc c))))) same come))
        (or_right _ (nat_le (words_owed down (suc c)) (length (words_at down (suc c)))) (le-leb _ _ all))

    by_owed : (b : Bool) → is_owed down c ≡ b → IsTrue (is_untaken target up down c || has_word_ready target up down (suc c) || is_owed down c) →
        IsTrue (is_untaken target up down c || is_raised (up.answers.valid (suc c)) || is_owed down c)
    by_owed true e f = or_right (is_untaken target up down c || is_raised (up.answers.valid (suc c))) (is_owed down c) e
    by_owed false e f = by_untaken (is_untaken target up down c) refl f
      where
        last : (r o : Bool) → IsFalse o → IsTrue ((false || r) || o) → IsTrue r
        last true o f h = refl
        last false true f h = absurd cc
        last false false f h = absurd (no_true h)

        by_untaken : (u : Bool) → is_untaken target up down c ≡ u → IsTrue (u || has_word_ready target up down (suc c) || is_owed down c) → IsTrue (u || is_raised (up.answers.valid (suc c)) || is_owed down c)
        by_untaken true eu f = refl
        by_untaken false eu f = or_left (false || is_raised (up.answers.valid (suc c))) _ (prompt (suc c) h (due (last (has_word_ready target up down (suc c)) (is_owed down c) e f) e))
