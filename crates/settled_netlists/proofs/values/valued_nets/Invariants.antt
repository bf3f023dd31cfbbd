use Rattle.settled_netlists.proofs.Rounds.{AreValuedBelow}
use Rattle.settled_netlists.proofs.values.valued_nets.Given as goal

abbrev pub invariant-loop-net : goal.invariant-loop-net
invariant-loop-net l = AreValuedBelow l.module l.values l.net l.nets.items
