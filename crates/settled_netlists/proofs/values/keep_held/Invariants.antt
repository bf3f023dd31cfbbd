use Rattle.settled_netlists.proofs.Rounds.{AreLeft}
use Rattle.settled_netlists.proofs.values.keep_held.Given as goal

abbrev pub invariant-loop-net : goal.invariant-loop-net
invariant-loop-net l = AreLeft l.module l.values l.nets l.net-index l.left.items
