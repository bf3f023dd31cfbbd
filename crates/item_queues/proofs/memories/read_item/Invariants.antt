use Rattle.std.proofs.Common.{◌≡◌, length, take}
use Rattle.item_queues.proofs.Written.{ItemRead}
use Rattle.item_queues.proofs.memories.read_item.Given as goal

abbrev pub invariant-loop-k : goal.invariant-loop-k
invariant-loop-k g l = ItemRead l.fn.builder l.builder l.place (take l.k l.memories) (take l.k l.made) l.k × (length l.made ≡ length l.like)
