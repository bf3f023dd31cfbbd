use Rattle.std.proofs.Common.{length}
use Rattle.mm_fabric.proofs.RowsMade.{ToldSoFar}
use Rattle.mm_fabric.proofs.rows.finish_rows.Given as goal

abbrev pub invariant-loop-row : goal.invariant-loop-row
invariant-loop-row l = ToldSoFar l.fn.builder l.builder l.port l.stages l.asking l.fn.rows.items l.seats l.begun.items l.told.items

abbrev pub decreases-loop-row : goal.decreases-loop-row
decreases-loop-row l = length l.begun.items
