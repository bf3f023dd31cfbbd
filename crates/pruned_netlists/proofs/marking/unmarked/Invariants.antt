use Rattle.std.proofs.Common.{◌≡◌, false, replicate}
use Rattle.pruned_netlists.proofs.marking.unmarked.Given as goal

abbrev pub invariant-marks : goal.invariant-marks
invariant-marks l = l.marks.items ≡ replicate l.counter false
