use Rattle.std.proofs.Common.{take}
use Rattle.item_queues.proofs.Written.{ItemWritten}
use Rattle.item_queues.proofs.memories.write_item.Given as goal

abbrev pub invariant-loop-k : goal.invariant-loop-k
invariant-loop-k g l = ItemWritten l.fn.builder l.builder l.comes l.place (take l.k l.memories) (take l.k l.item)
