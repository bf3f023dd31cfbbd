use Rattle.std.proofs.Common.{◌≡◌, length, take}
use Rattle.net_parts.proofs.GroupsMade.{ChoicesMade}
use Rattle.net_parts.proofs.groups.choose_all.Given as goal

abbrev pub invariant-loop-k : goal.invariant-loop-k
invariant-loop-k g l = ChoicesMade l.fn.builder l.builder l.bit (take l.k l.one) (take l.k l.other) (take l.k l.made) l.k × (length l.made ≡ length l.one)
