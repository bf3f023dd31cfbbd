use Rattle.std.proofs.Common.{◌≡◌, length}
use Rattle.narrowed_netlists.specs.Masks.{AreMemoryGaps}
use Rattle.narrowed_netlists.proofs.masks.memory_gaps.Given as goal

abbrev pub invariant-loop-number : goal.invariant-loop-number
invariant-loop-number l = record { count : length l.gaps.items ≡ l.number; fit : AreMemoryGaps l.module l.gaps.items l.number }
