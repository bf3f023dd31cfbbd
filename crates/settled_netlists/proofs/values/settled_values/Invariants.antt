use Rattle.std.proofs.Common.{length}
use Rattle.settled_netlists.proofs.Rounds.{IsRound}
use Rattle.settled_netlists.proofs.values.settled_values.Given as goal

abbrev pub invariant-rounds : goal.invariant-rounds
invariant-rounds l = IsRound l.module l.values.items l.nets.items l.left.items

abbrev pub decreases-rounds : goal.decreases-rounds
decreases-rounds l = length l.nets.items
