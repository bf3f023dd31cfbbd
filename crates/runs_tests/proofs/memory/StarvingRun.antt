-- A link that keeps the laws, with a rank that is always 0, and never gives a word while writes go on.
use Rattle.std.proofs.Common.{ℕ, zero, suc, ◌<◌, ◌≤◌, not, arith, refl, IsTrue}
use Rattle.histories.specs.Below.{each_below}
use Rattle.histories.specs.History.AreWithin.{all_placed, placed, next_room}
use Rattle.memory_machines.specs.Link.{CarriesCommands, AreLegalAt}
use Rattle.runs_tests.specs.Laxer.{moves, FallsByWords}
use Rattle.memory_runs.specs.Awake.{ServesWithin, IsWanted, serves}
use Rattle.runs_tests.specs.MoreExamples.{byte_target}
use Rattle.runs_tests.specs.Hung.{starving_top, starving_bottom, starving_system, starving_run}
use Rattle.runs_tests.proofs.memory.ShortRuns.{legal_by_cycles, carries_by_cycles}

-- a beat is taken below in each cycle
pub always_falls : (end : ℕ) → FallsByWords byte_target starving_top starving_bottom (λ c. 0) 0 end
always_falls end = record {
  bounded = λ c h. omega arith;
  falls = λ c h work still must. absurd (never c still);
  stays = λ c h work still. omega arith;
}
  where
    never : (c : ℕ) → IsTrue (not (moves starving_top starving_bottom c)) → ⊥
    never zero still = cc
    never (suc c) still = cc

top_legal : AreLegalAt starving_bottom 4
top_legal = legal_by_cycles starving_bottom 4 ((((tt, λ held. cc), λ held. cc), λ held. cc), λ held. cc) ((((tt, refl), refl), refl), refl)
    ((((tt, omega arith), omega arith), omega arith), omega arith) ((((tt, omega arith), omega arith), omega arith), omega arith)
    ((((tt, λ h. cc), λ h. refl), λ h. refl), λ h. refl)
    ((((tt, λ s. cc), λ s. cc), λ s. cc), λ s. cc)

pub top_carries : CarriesCommands byte_target 1 starving_top starving_bottom 4
top_carries = carries_by_cycles byte_target 1 starving_top starving_bottom 4
    (((((tt, record { rest = _; joins = refl }), record { rest = _; joins = refl }), record { rest = _; joins = refl }), record { rest = _; joins = refl }), record { rest = _; joins = refl })
    (((((tt, refl), refl), refl), refl), refl) (((((tt, omega arith), omega arith), omega arith), omega arith), omega arith) (((((tt, omega arith), omega arith), omega arith), omega arith), omega arith)
    (((((tt, all_placed), placed (omega arith) all_placed), placed (omega arith) (next_room (placed (omega arith) all_placed))), placed (omega arith) (next_room (placed (omega arith) (next_room (placed (omega arith) all_placed))))), placed (omega arith) (next_room (placed (omega arith) (next_room (placed (omega arith) (next_room (placed (omega arith) all_placed)))))))
    top_legal

-- agent 0 is wanted for its word, and isn't served
pub starving_is_not : ServesWithin 3 starving_system starving_run 0 5 → ⊥
starving_is_not awake =
    let wanted = λ (c : ℕ) (low : 2 ≤ c) (high : c < 5). each_below (λ c. 2 ≤ c → IsWanted starving_system starving_run 0 0 1 c) 5 c
    (((((tt, λ low. absurd (omega (arith, low))), λ low. absurd (omega (arith, low))), λ low. record { oldest = refl; for_agent = refl; ready = refl; answered = refl; bursts = refl }), λ low. record { oldest = refl; for_agent = refl; ready = refl; answered = refl; bursts = refl }), λ low. record { oldest = refl; for_agent = refl; ready = refl; answered = refl; bursts = refl }) high low in
    let served = awake 2 0 1 (omega arith) (omega arith) wanted in
    each_below (λ c. 2 ≤ c → IsTrue (serves starving_system starving_run 0 c) → ⊥) 5 served.0 (((((tt, λ low h. absurd (omega (arith, low))), λ low h. absurd (omega (arith, low))), λ low h. cc), λ low h. cc), λ low h. cc) served.2 served.1 served.3
