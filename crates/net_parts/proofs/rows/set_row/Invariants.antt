use Rattle.std.proofs.Common.{length}
use Rattle.net_parts.specs.RowLaws.{AreSet}
use Rattle.net_parts.proofs.rows.set_row.Given as goal

abbrev pub invariant-loop-place : goal.invariant-loop-place
invariant-loop-place g l = AreSet l.fn.builder l.builder l.row l.rest l.fn.here l.into l.comes l.shift l.from

abbrev pub decreases-loop-place : goal.decreases-loop-place
decreases-loop-place g l = length l.rest
