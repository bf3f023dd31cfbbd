use Rattle.pruned_netlists.specs.Numbers.{AreNumbers}
use Rattle.pruned_netlists.proofs.numbers.Numbers.new.Given as goal

abbrev pub invariant-loop-number : goal.invariant-loop-number
invariant-loop-number l = AreNumbers l.marks.items l.number l.places.items l.count
