-- Both links of another run that hangs keep the laws, with ranks that are always 0.
use Rattle.std.proofs.Common.{ℕ, zero, suc, ◌<◌, ◌≤◌, ◌≡◌, not, arith, refl, IsTrue, [], ◌∙◌, append-nil}
use Rattle.memory_runs.specs.Commands.{is_held, burst_before}
use Rattle.memory_runs.specs.Legal.{is_under_way}
use Rattle.histories.specs.Below.{each_below}
use Rattle.histories.specs.History.AreWithin.{all_placed, placed, next_room}
use Rattle.memory_machines.specs.Link.{CarriesCommands, AreLegalAt, takes, words_at, words_owed, taken_at}
use Rattle.runs_tests.specs.Laxer.{moves, is_excused_half, FallsHalf}
use Rattle.memory_machines.specs.Rank.{is_owed}
use Rattle.memory_runs.specs.Awake.{ServesWithin, IsWanted, serves}
use Rattle.runs_tests.specs.MoreExamples.{byte_target}
use Rattle.runs_tests.specs.Hung.{owing_top, owing_middle, owing_bottom, hung_system, owing_run}
use Rattle.runs_tests.proofs.memory.ShortRuns.{legal_by_cycles, carries_by_cycles, second_excuse, last_excuse}

-- one word is owed between the links for ever
words_none : (c : ℕ) → words_at owing_middle c ≡ []
words_none zero = refl
words_none (suc c) = same c ∙ words_none c
  where
    same : (c : ℕ) → words_at owing_middle (suc c) ≡ words_at owing_middle c
    same zero = refl
    same (suc zero) = refl
    same (suc (suc c)) = append-nil (words_at owing_middle (suc (suc c)))

one_owed : (c : ℕ) → words_owed owing_middle (suc (suc c)) ≡ 1
one_owed zero = refl
one_owed (suc c) = rw (taken_same c) (one_owed c)
  where
    taken_same : (c : ℕ) → taken_at owing_middle (suc (suc (suc c))) ≡ taken_at owing_middle (suc (suc c))
    taken_same c = append-nil (taken_at owing_middle (suc (suc c)))

is_owed_there : (c : ℕ) → IsTrue (is_owed owing_middle (suc (suc c)))
is_owed_there c = rw (words_none (suc (suc (suc c))), one_owed (suc c)) refl

stays_under_way : (c : ℕ) → burst_before owing_middle.shape owing_middle.commands.signals (takes owing_middle) (suc (suc c)) ≡ record { left = 1; done = 1; first = 0 }
stays_under_way zero = refl
stays_under_way (suc c) = stays_under_way c

under_way : (c : ℕ) → IsTrue (is_under_way owing_middle.shape owing_middle.commands.signals (takes owing_middle) (suc (suc c)))
under_way c = rw (stays_under_way c) refl

-- the upper link is excused by the word that is owed below it
pub upper_falls : (end : ℕ) → FallsHalf byte_target owing_top owing_middle (λ c. 0) 0 end
upper_falls end = record {
  bounded = λ c h. omega arith;
  falls = λ c h work still must. absurd (never c still must);
  stays = λ c h work still. omega arith;
}
  where
    never : (c : ℕ) → IsTrue (not (moves owing_top owing_middle c)) → IsTrue (not (is_excused_half owing_top owing_middle c)) → ⊥
    never zero still must = cc
    never (suc zero) still must = cc
    never (suc (suc c)) still must = second_excuse (is_held owing_middle.commands.signals (takes owing_middle) (suc (suc c))) (is_owed owing_middle (suc (suc c))) _ (is_owed_there c) must

-- the lower link is excused by the burst under way above it, of which no beat is shown
pub lower_falls : (end : ℕ) → FallsHalf byte_target owing_middle owing_bottom (λ c. 0) 0 end
lower_falls end = record {
  bounded = λ c h. omega arith;
  falls = λ c h work still must. absurd (never c still must);
  stays = λ c h work still. omega arith;
}
  where
    never : (c : ℕ) → IsTrue (not (moves owing_middle owing_bottom c)) → IsTrue (not (is_excused_half owing_middle owing_bottom c)) → ⊥
    never zero still must = cc
    never (suc zero) still must = cc
    never (suc (suc c)) still must = last_excuse (is_owed owing_bottom (suc (suc c))) _ (under_way c) must

-- the laws on commands

top_legal : AreLegalAt owing_middle 4
top_legal = legal_by_cycles owing_middle 4 ((((tt, λ held. cc), λ held. cc), λ held. cc), λ held. cc) ((((tt, refl), refl), refl), refl)
    ((((tt, omega arith), omega arith), omega arith), omega arith) ((((tt, omega arith), omega arith), omega arith), omega arith)
    ((((tt, λ h. cc), λ h. refl), λ h. refl), λ h. refl)
    ((((tt, λ s. cc), λ s. cc), λ s. cc), λ s. cc)

pub top_carries : CarriesCommands byte_target 1 owing_top owing_middle 4
top_carries = carries_by_cycles byte_target 1 owing_top owing_middle 4
    (((((tt, record { rest = _; joins = refl }), record { rest = _; joins = refl }), record { rest = _; joins = refl }), record { rest = _; joins = refl }), record { rest = _; joins = refl })
    (((((tt, refl), refl), refl), refl), refl) (((((tt, omega arith), omega arith), omega arith), omega arith), omega arith) (((((tt, omega arith), omega arith), omega arith), omega arith), omega arith)
    (((((tt, all_placed), placed (omega arith) all_placed), placed (omega arith) (next_room (placed (omega arith) all_placed))), placed (omega arith) (next_room (placed (omega arith) all_placed))), placed (omega arith) (next_room (placed (omega arith) all_placed)))
    top_legal

bottom_legal : AreLegalAt owing_bottom 4
bottom_legal = legal_by_cycles owing_bottom 4 ((((tt, λ held. cc), λ held. cc), λ held. cc), λ held. cc) ((((tt, refl), refl), refl), refl)
    ((((tt, omega arith), omega arith), omega arith), omega arith) ((((tt, omega arith), omega arith), omega arith), omega arith)
    ((((tt, λ h. cc), λ h. refl), λ h. refl), λ h. refl)
    ((((tt, λ s. cc), λ s. cc), λ s. cc), λ s. cc)

pub bottom_carries : CarriesCommands byte_target 1 owing_middle owing_bottom 4
bottom_carries = carries_by_cycles byte_target 1 owing_middle owing_bottom 4
    (((((tt, record { rest = _; joins = refl }), record { rest = _; joins = refl }), record { rest = _; joins = refl }), record { rest = _; joins = refl }), record { rest = _; joins = refl })
    (((((tt, refl), refl), refl), refl), refl) (((((tt, omega arith), omega arith), omega arith), omega arith), omega arith) (((((tt, omega arith), omega arith), omega arith), omega arith), omega arith)
    (((((tt, all_placed), placed (omega arith) all_placed), placed (omega arith) (next_room (placed (omega arith) all_placed))), placed (omega arith) (next_room (placed (omega arith) all_placed))), placed (omega arith) (next_room (placed (omega arith) all_placed)))
    bottom_legal

-- the host waits from cycle 2 on, and isn't served
pub owing_is_not : ServesWithin 3 hung_system owing_run 0 5 → ⊥
owing_is_not awake =
    let wanted = λ (c : ℕ) (low : 2 ≤ c) (high : c < 5). each_below (λ c. 2 ≤ c → IsWanted hung_system owing_run 0 0 1 c) 5 c
    (((((tt, λ low. absurd (omega (arith, low))), λ low. absurd (omega (arith, low))), λ low. record { oldest = refl; for_agent = refl; ready = refl; answered = refl; bursts = refl }), λ low. record { oldest = refl; for_agent = refl; ready = refl; answered = refl; bursts = refl }), λ low. record { oldest = refl; for_agent = refl; ready = refl; answered = refl; bursts = refl }) high low in
    let served = awake 2 0 1 (omega arith) (omega arith) wanted in
    each_below (λ c. 2 ≤ c → IsTrue (serves hung_system owing_run 0 c) → ⊥) 5 served.0 (((((tt, λ low h. absurd (omega (arith, low))), λ low h. absurd (omega (arith, low))), λ low h. cc), λ low h. cc), λ low h. cc) served.2 served.1 served.3
