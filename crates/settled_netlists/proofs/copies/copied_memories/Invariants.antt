use Rattle.std.proofs.Common.{◌≡◌, take}
use Rattle.settled_netlists.proofs.copies.copied_memories.Given as goal

abbrev pub invariant-loop-number : goal.invariant-loop-number
invariant-loop-number l = l.memories.items ≡ take l.number l.module.memories
