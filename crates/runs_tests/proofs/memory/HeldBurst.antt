-- What drops beats keeps the first beat of a write burst as long as a host holds the next one back.
use Rattle.std.proofs.Common.{ℕ, zero, suc, ◌≡◌, ◌+◌, Bool, true, false, not, ◌&&◌, ◌||◌, [], ◌++◌, arith, refl, ap, ap₂, length, IsTrue}
use Rattle.std.proofs.lemmas.Bool.{ltb-true}
use Rattle.histories.specs.History.{is_raised, only_if, is_first, stands_on, first_shown}
use Rattle.memory_runs.specs.Views.{levels_at}
use Rattle.memory_runs.specs.Commands.{shows, is_held, transfer_at}
use Rattle.memory_machines.specs.Link.{AreLegalAt, Marked, marked_at, takes, shown_at, operations_among}
use Rattle.memory_machines.specs.Straight.{IsShownPromptly}
use Rattle.memory_links.specs.Driven.{drop_above, drop_below, drop_state}
use Rattle.memory_links.specs.Drops.{RunsAsDrop}
use Rattle.runs_tests.specs.LinkRuns.{held_burst}
use Rattle.runs_tests.specs.MoreExamples.{byte_target}

none_first : (shown accepts : ℕ → Bool) → ((c : ℕ) → shown c ≡ false) → (item : ℕ → Marked) (c : ℕ) → first_shown shown accepts item c ≡ []
none_first shown accepts none item zero = refl
none_first shown accepts none item (suc c) = ap₂ (λ l b. l ++ only_if b (item c)) (none_first shown accepts none item c) (by_cycle c)
  where
    by_cycle : (c : ℕ) → is_first shown accepts c ≡ false
    by_cycle zero = none zero
    by_cycle (suc c) = ap (λ b. b && not (stands_on shown accepts c)) (none (suc c))

module _ (run : RunsAsDrop 16 (drop_above held_burst) (drop_below held_burst) (drop_state held_burst)) where
  none_below : (c : ℕ) → shows (drop_below held_burst).commands.signals c ≡ false
  none_below zero = run.shown zero
  none_below (suc c) = run.shown (suc c)

  pub burst_is_kept : (few : ℕ) → IsShownPromptly few true byte_target (drop_above held_burst) (drop_below held_burst) (few + 1) → ⊥
  burst_is_kept few prompt =
      let shown = prompt.shown 0 0 (marked_at (drop_above held_burst) 0) (omega arith) refl refl refl in
      let none = none_first (shows (drop_below held_burst).commands.signals) (takes (drop_below held_burst)) none_below (marked_at (drop_below held_burst)) (suc (0 + few)) in
      let some = ltb-true 0 (length (operations_among byte_target (drop_below held_burst).shape (shown_at (drop_below held_burst) (suc (0 + few))))) shown in
      let size = ap (λ l. length (operations_among byte_target (drop_below held_burst).shape l)) none in
      omega (arith, some, size)

still : (c : ℕ) → IsTrue (is_held (drop_above held_burst).commands.signals (takes (drop_above held_burst)) c) → levels_at (drop_above held_burst).commands.signals c ≡ levels_at (drop_above held_burst).commands.signals (suc c)
still zero held = cc
still (suc c) held = cc

still_more : (c : ℕ) → IsTrue (is_held (drop_above held_burst).commands.signals (takes (drop_above held_burst)) c) → (drop_above held_burst).commands.more c ≡ (drop_above held_burst).commands.more (suc c)
still_more zero held = cc
still_more (suc c) held = cc

ends : (c : ℕ) → IsTrue (shows (drop_above held_burst).commands.signals c) → IsTrue ((transfer_at (drop_above held_burst).shape (drop_above held_burst).commands.signals (takes (drop_above held_burst)) c).ends || is_raised ((drop_above held_burst).commands.more c))
ends zero shown = refl
ends (suc c) shown = cc

pub burst_is_legal : (end : ℕ) → AreLegalAt (drop_above held_burst) end
burst_is_legal end = record {
  legal = record {
    one_kind = λ c h. refl;
    held = λ c h held. still c held;
    least = λ c h shown free. omega arith;
    most = λ c h shown free. omega arith;
    finished = λ c h busy. refl;
  };
  tag = λ c h held. refl;
  more = λ c h held. still_more c held;
  joined = λ c h shown. ends c shown;
}
