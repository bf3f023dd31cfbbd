use Rattle.std.proofs.Common.{◌+◌, ◌<◌, ◌≤◌}
use Rattle.narrowed_netlists.proofs.gaps.longest_gap.Given as goal

abbrev pub invariant-loop-bit : goal.invariant-loop-bit
invariant-loop-bit l = record { run : l.zeros ≤ l.bit; inside : l.longest.low + l.longest.zeros ≤ l.bit; some_bit : l.longest.zeros < l.width }
