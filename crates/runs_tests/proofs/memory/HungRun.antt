-- Both links of the run that hangs keep the laws, with ranks that are always 0.
use Rattle.std.proofs.Common.{ℕ, zero, suc, ◌<◌, ◌≤◌, ◌≡◌, not, arith, refl, nat_lt, length, IsTrue}
use Rattle.memory_runs.specs.Commands.{burst_before}
use Rattle.memory_runs.specs.Legal.{is_under_way}
use Rattle.histories.specs.Below.{each_below}
use Rattle.histories.specs.History.AreWithin.{all_placed, placed}
use Rattle.memory_machines.specs.Link.{CarriesCommands, AreLegalAt, takes, words_at, words_owed}
use Rattle.runs_tests.specs.Laxer.{FallsLax, moves, is_excused_lax}
use Rattle.memory_runs.specs.Awake.{ServesWithin, IsWanted, serves}
use Rattle.runs_tests.specs.MoreExamples.{byte_target}
use Rattle.runs_tests.specs.Hung.{hung_top, hung_middle, hung_bottom, hung_system, hung_run}
use Rattle.runs_tests.proofs.memory.ShortRuns.{legal_by_cycles, carries_by_cycles, last_excuse}

-- the upper link is excused by the wait below it
pub top_falls : (end : ℕ) → FallsLax byte_target hung_top hung_middle (λ c. 0) 0 end
top_falls end = record {
  bounded = λ c h. omega arith;
  falls = λ c h work still must. absurd (never c still must);
  stays = λ c h work still. omega arith;
}
  where
    never : (c : ℕ) → IsTrue (not (moves hung_top hung_middle c)) → IsTrue (not (is_excused_lax hung_top hung_middle c)) → ⊥
    never zero still must = cc
    never (suc c) still must = cc

-- a burst whose first beat was accepted is under way for ever
stays_under_way : (c : ℕ) → burst_before hung_middle.shape hung_middle.commands.signals (takes hung_middle) (suc c) ≡ record { left = 1; done = 1; first = 0 }
stays_under_way zero = refl
stays_under_way (suc c) = stays_under_way c

under_way : (c : ℕ) → IsTrue (is_under_way hung_middle.shape hung_middle.commands.signals (takes hung_middle) (suc c))
under_way c = rw (stays_under_way c) refl

-- the lower link is excused by the burst under way above it, of which no beat is shown
pub bottom_falls : (end : ℕ) → FallsLax byte_target hung_middle hung_bottom (λ c. 0) 0 end
bottom_falls end = record {
  bounded = λ c h. omega arith;
  falls = λ c h work still must. absurd (never c still must);
  stays = λ c h work still. omega arith;
}
  where
    never : (c : ℕ) → IsTrue (not (moves hung_middle hung_bottom c)) → IsTrue (not (is_excused_lax hung_middle hung_bottom c)) → ⊥
    never zero still must = cc
    never (suc c) still must = last_excuse (nat_lt (length (words_at hung_bottom (suc (suc c)))) (words_owed hung_bottom (suc (suc c)))) _ (under_way c) must

-- the laws on commands

top_legal : AreLegalAt hung_middle 4
top_legal = legal_by_cycles hung_middle 4 ((((tt, λ held. cc), λ held. cc), λ held. cc), λ held. cc) ((((tt, refl), refl), refl), refl)
    ((((tt, omega arith), omega arith), omega arith), omega arith) ((((tt, omega arith), omega arith), omega arith), omega arith)
    ((((tt, λ h. refl), λ h. refl), λ h. refl), λ h. refl)
    ((((tt, λ s. cc), λ s. cc), λ s. cc), λ s. cc)

pub top_carries : CarriesCommands byte_target 1 hung_top hung_middle 4
top_carries = carries_by_cycles byte_target 1 hung_top hung_middle 4
    (((((tt, record { rest = _; joins = refl }), record { rest = _; joins = refl }), record { rest = _; joins = refl }), record { rest = _; joins = refl }), record { rest = _; joins = refl })
    (((((tt, refl), refl), refl), refl), refl) (((((tt, omega arith), omega arith), omega arith), omega arith), omega arith) (((((tt, omega arith), omega arith), omega arith), omega arith), omega arith)
    (((((tt, all_placed), placed (omega arith) all_placed), placed (omega arith) all_placed), placed (omega arith) all_placed), placed (omega arith) all_placed)
    top_legal

bottom_legal : AreLegalAt hung_bottom 4
bottom_legal = legal_by_cycles hung_bottom 4 ((((tt, λ held. cc), λ held. cc), λ held. cc), λ held. cc) ((((tt, refl), refl), refl), refl)
    ((((tt, omega arith), omega arith), omega arith), omega arith) ((((tt, omega arith), omega arith), omega arith), omega arith)
    ((((tt, λ h. refl), λ h. refl), λ h. refl), λ h. refl)
    ((((tt, λ s. cc), λ s. cc), λ s. cc), λ s. cc)

pub bottom_carries : CarriesCommands byte_target 1 hung_middle hung_bottom 4
bottom_carries = carries_by_cycles byte_target 1 hung_middle hung_bottom 4
    (((((tt, record { rest = _; joins = refl }), record { rest = _; joins = refl }), record { rest = _; joins = refl }), record { rest = _; joins = refl }), record { rest = _; joins = refl })
    (((((tt, refl), refl), refl), refl), refl) (((((tt, omega arith), omega arith), omega arith), omega arith), omega arith) (((((tt, omega arith), omega arith), omega arith), omega arith), omega arith)
    (((((tt, all_placed), placed (omega arith) all_placed), placed (omega arith) all_placed), placed (omega arith) all_placed), placed (omega arith) all_placed)
    bottom_legal

-- the host waits from cycle 1 on, and isn't served
pub hung_is_not : ServesWithin 3 hung_system hung_run 0 4 → ⊥
hung_is_not awake =
    let wanted = λ (c : ℕ) (low : 1 ≤ c) (high : c < 4). each_below (λ c. 1 ≤ c → IsWanted hung_system hung_run 0 0 1 c) 4 c
    ((((tt, λ low. absurd (omega (arith, low))), λ low. record { oldest = refl; for_agent = refl; ready = refl; answered = refl; bursts = refl }), λ low. record { oldest = refl; for_agent = refl; ready = refl; answered = refl; bursts = refl }), λ low. record { oldest = refl; for_agent = refl; ready = refl; answered = refl; bursts = refl }) high low in
    let served = awake 1 0 1 (omega arith) (omega arith) wanted in
    each_below (λ c. 1 ≤ c → IsTrue (serves hung_system hung_run 0 c) → ⊥) 4 served.0 ((((tt, λ low h. absurd (omega (arith, low))), λ low h. cc), λ low h. cc), λ low h. cc) served.2 served.1 served.3
