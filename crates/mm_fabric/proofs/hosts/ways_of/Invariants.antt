use Rattle.std.proofs.Common.{take}
use Rattle.mm_fabric.specs.Ways.{AreWaysOf}
use Rattle.mm_fabric.proofs.hosts.ways_of.Given as goal

abbrev pub invariant-loop-k : goal.invariant-loop-k
invariant-loop-k l = AreWaysOf (take l.k l.routes) (take l.k l.commands) (take l.k l.backs) l.ways
