use Rattle.std.proofs.Common.{ℕ, zero, suc, ◌<◌, not, ◌&&◌, ◌||◌, arith, refl, IsTrue, IsFalse}
use Rattle.histories.specs.History.{is_raised}
use Rattle.memory_runs.specs.Commands.{shows, transfer_at}
use Rattle.memory_runs.specs.Legal.{is_under_way}
use Rattle.memory_machines.specs.Link.{AreLegalAt, takes}
use Rattle.runs_tests.specs.WidthSystem.{two_words}
use Rattle.runs_tests.proofs.memory.rows.bursts_may_be_longer_below.Goals as goal

pub returns-clause-alike : goal.returns-clause-alike
returns-clause-alike c = (refl, refl, refl, refl, refl)

pub returns-clause-narrower : goal.returns-clause-narrower
returns-clause-narrower c = (refl, omega arith, refl)

legal : AreLegalAt two_words 1
legal = record {
  legal = record {
    one_kind = at_first (λ c. IsTrue (not (is_raised (two_words.commands.read c) && is_raised (two_words.commands.write c)))) refl;
    held = λ c h waits. absurd (omega (arith, h));
    least = λ c h first free. omega arith;
    most = λ c h first free. omega arith;
    finished = at_first (λ c. IsTrue (is_under_way two_words.shape two_words.commands.signals (takes two_words) c) → IsFalse (is_raised (two_words.commands.read c))) (λ under. refl);
  };
  tag = λ c h waits. absurd (omega (arith, h));
  more = λ c h waits. absurd (omega (arith, h));
  joined = at_first (λ c. IsTrue (shows two_words.commands.signals c) → IsTrue ((transfer_at two_words.shape two_words.commands.signals (takes two_words) c).ends || is_raised (two_words.commands.more c))) (λ shown. refl);
}
  where
    at_first : (P : ℕ → Type 0) → P 0 → (c : ℕ) → c < 1 → P c
    at_first P first zero h = first
    at_first P first (suc c) h = absurd (omega (arith, h))

pub returns-clause-shorter : goal.returns-clause-shorter
returns-clause-shorter c = (legal, λ bad. let few = bad.legal.most 0 (omega arith) refl refl in absurd (omega (arith, few)))
