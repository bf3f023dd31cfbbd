use Rattle.settled_netlists.proofs.Rounds.{AreFirst}
use Rattle.settled_netlists.proofs.values.first_values.Given as goal

abbrev pub invariant-loop-net : goal.invariant-loop-net
invariant-loop-net l = AreFirst l.module l.values.items l.net
