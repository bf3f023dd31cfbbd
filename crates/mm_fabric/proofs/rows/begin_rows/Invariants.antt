use Rattle.std.proofs.Common.{take}
use Rattle.mm_fabric.proofs.RowsMade.{RowsSoFar}
use Rattle.mm_fabric.proofs.rows.begin_rows.Given as goal

abbrev pub invariant-loop-asked : goal.invariant-loop-asked
invariant-loop-asked l = RowsSoFar l.fn.builder l.builder l.port l.stages l.asked-index (take l.asked-index l.asking) l.rows.items l.commands.items
