use Rattle.std.proofs.Common.{◌≡◌, length, take}
use Rattle.net_parts.proofs.GroupsMade.{RegistersMade}
use Rattle.net_parts.proofs.groups.low_registers.Given as goal

abbrev pub invariant-loop-k : goal.invariant-loop-k
invariant-loop-k g l = RegistersMade l.fn.builder l.builder (take l.k l.like) (take l.k l.made) l.k × (length l.made ≡ length l.like)
