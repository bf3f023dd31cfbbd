use Rattle.pruned_netlists.specs.Moved.{AreMovedLines}
use Rattle.pruned_netlists.proofs.copies.moved_lines.Given as goal

abbrev pub invariant-loop-net : goal.invariant-loop-net
invariant-loop-net l = AreMovedLines l.module l.nets l.memories l.net l.lines.items
