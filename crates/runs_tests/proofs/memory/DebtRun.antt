-- A link keeps the laws, with a rank that is always 0, and holds a burst back while another agent owes a word.
use Rattle.std.proofs.Common.{ℕ, zero, suc, ◌<◌, ◌≤◌, ◌≡◌, not, arith, refl, IsTrue, [], ◌∙◌, append-nil}
use Rattle.memory_runs.specs.Commands.{is_held}
use Rattle.histories.specs.Below.{each_below}
use Rattle.histories.specs.History.AreWithin.{all_placed, placed, next_room}
use Rattle.memory_machines.specs.Link.{CarriesCommands, AreLegalAt, takes, words_at, words_owed, taken_at}
use Rattle.runs_tests.specs.Laxer.{moves, is_excused_half, FallsHalf}
use Rattle.memory_machines.specs.Rank.{is_owed}
use Rattle.memory_runs.specs.Awake.{ServesWithin, IsWanted, serves}
use Rattle.runs_tests.specs.MoreExamples.{byte_target}
use Rattle.runs_tests.specs.Hung.{debt_top, debt_bottom, debt_system, debt_run}
use Rattle.runs_tests.proofs.memory.ShortRuns.{legal_by_cycles, carries_by_cycles, second_excuse}

-- one word is owed between the links for ever
words_none : (c : ℕ) → words_at debt_bottom c ≡ []
words_none zero = refl
words_none (suc c) = append-nil (words_at debt_bottom c) ∙ words_none c

one_owed : (c : ℕ) → words_owed debt_bottom (suc (suc c)) ≡ 1
one_owed zero = refl
one_owed (suc c) = rw (taken_same c) (one_owed c)
  where
    taken_same : (c : ℕ) → taken_at debt_bottom (suc (suc (suc c))) ≡ taken_at debt_bottom (suc (suc c))
    taken_same c = append-nil (taken_at debt_bottom (suc (suc c)))

is_owed_there : (c : ℕ) → IsTrue (is_owed debt_bottom (suc (suc c)))
is_owed_there c = rw (words_none (suc (suc (suc c))), one_owed (suc c)) refl

-- the link is excused by a word that another agent owes
pub debt_falls : (end : ℕ) → FallsHalf byte_target debt_top debt_bottom (λ c. 0) 0 end
debt_falls end = record {
  bounded = λ c h. omega arith;
  falls = λ c h work still must. absurd (never c still must);
  stays = λ c h work still. omega arith;
}
  where
    never : (c : ℕ) → IsTrue (not (moves debt_top debt_bottom c)) → IsTrue (not (is_excused_half debt_top debt_bottom c)) → ⊥
    never zero still must = cc
    never (suc zero) still must = cc
    never (suc (suc c)) still must = second_excuse (is_held debt_bottom.commands.signals (takes debt_bottom) (suc (suc c))) (is_owed debt_bottom (suc (suc c))) _ (is_owed_there c) must

top_legal : AreLegalAt debt_bottom 4
top_legal = legal_by_cycles debt_bottom 4 ((((tt, λ held. cc), λ held. cc), λ held. cc), λ held. cc) ((((tt, refl), refl), refl), refl)
    ((((tt, omega arith), omega arith), omega arith), omega arith) ((((tt, omega arith), omega arith), omega arith), omega arith)
    ((((tt, λ h. cc), λ h. refl), λ h. refl), λ h. refl)
    ((((tt, λ s. cc), λ s. cc), λ s. cc), λ s. cc)

pub top_carries : CarriesCommands byte_target 1 debt_top debt_bottom 4
top_carries = carries_by_cycles byte_target 1 debt_top debt_bottom 4
    (((((tt, record { rest = _; joins = refl }), record { rest = _; joins = refl }), record { rest = _; joins = refl }), record { rest = _; joins = refl }), record { rest = _; joins = refl })
    (((((tt, refl), refl), refl), refl), refl) (((((tt, omega arith), omega arith), omega arith), omega arith), omega arith) (((((tt, omega arith), omega arith), omega arith), omega arith), omega arith)
    (((((tt, all_placed), placed (omega arith) all_placed), placed (omega arith) (next_room (placed (omega arith) all_placed))), placed (omega arith) (next_room (placed (omega arith) all_placed))), placed (omega arith) (next_room (placed (omega arith) all_placed)))
    top_legal

-- agent 0 is wanted by host 1, whose burst is shown by host 0, and isn't served
pub debt_is_not : ServesWithin 3 debt_system debt_run 0 5 → ⊥
debt_is_not awake =
    let wanted = λ (c : ℕ) (low : 2 ≤ c) (high : c < 5). each_below (λ c. 2 ≤ c → IsWanted debt_system debt_run 0 1 1 c) 5 c
    (((((tt, λ low. absurd (omega (arith, low))), λ low. absurd (omega (arith, low))), λ low. record { oldest = refl; for_agent = refl; ready = refl; answered = refl; bursts = refl }), λ low. record { oldest = refl; for_agent = refl; ready = refl; answered = refl; bursts = refl }), λ low. record { oldest = refl; for_agent = refl; ready = refl; answered = refl; bursts = refl }) high low in
    let served = awake 2 1 1 (omega arith) (omega arith) wanted in
    each_below (λ c. 2 ≤ c → IsTrue (serves debt_system debt_run 0 c) → ⊥) 5 served.0 (((((tt, λ low h. absurd (omega (arith, low))), λ low h. absurd (omega (arith, low))), λ low h. cc), λ low h. cc), λ low h. cc) served.2 served.1 served.3
