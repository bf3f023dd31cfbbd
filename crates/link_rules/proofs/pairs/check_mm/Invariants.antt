use Rattle.std.proofs.Common.{◌≡◌, ℕ, ◌<◌, false}
use Rattle.link_rules.specs.Pairs.{fails, mm_tests}
use Rattle.link_rules.proofs.pairs.check_mm.Given as goal

abbrev pub invariant-loop-rule : goal.invariant-loop-rule
invariant-loop-rule l = (k : ℕ) → k < l.rule → fails (mm_tests l.host l.agent l.same_clock) k ≡ false
