use Rattle.std.proofs.Common.{◌≡◌, ℕ, ◌<◌, false}
use Rattle.link_rules.specs.Pairs.{fails, stream_tests}
use Rattle.link_rules.proofs.pairs.check_st.Given as goal

abbrev pub invariant-loop-rule : goal.invariant-loop-rule
invariant-loop-rule l = (k : ℕ) → k < l.rule → fails (stream_tests l.source l.sink l.same_clock) k ≡ false
