use Rattle.pruned_netlists.specs.Moved.{AreMovedMemories}
use Rattle.pruned_netlists.proofs.copies.moved_memories.Given as goal

abbrev pub invariant-loop-number : goal.invariant-loop-number
invariant-loop-number l = AreMovedMemories l.module l.nets l.memories l.number l.moved.items
