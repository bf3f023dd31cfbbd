use Rattle.std.proofs.Common.{take}
use Rattle.net_parts.proofs.GroupsMade.{NextAreSet}
use Rattle.net_parts.proofs.groups.set_all_next.Given as goal

abbrev pub invariant-loop-k : goal.invariant-loop-k
invariant-loop-k g l = NextAreSet l.fn.builder l.builder (take l.k l.group) (take l.k l.next)
