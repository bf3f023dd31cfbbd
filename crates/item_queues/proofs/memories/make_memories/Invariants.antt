use Rattle.std.proofs.Common.{◌≡◌, length, take}
use Rattle.item_queues.proofs.Written.{MemsMade}
use Rattle.item_queues.proofs.memories.make_memories.Given as goal

abbrev pub invariant-loop-k : goal.invariant-loop-k
invariant-loop-k g l = MemsMade l.fn.builder l.builder l.address_bits (take l.k l.like) (take l.k l.made) l.k × (length l.made ≡ g.row.N)
