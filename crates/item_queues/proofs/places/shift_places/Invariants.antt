use Rattle.std.proofs.Common.{length}
use Rattle.item_queues.proofs.Shifts.{ShiftsSet}
use Rattle.item_queues.proofs.places.shift_places.Given as goal

abbrev pub invariant-loop-place : goal.invariant-loop-place
invariant-loop-place g l = ShiftsSet l.fn.builder l.builder l.places l.rest l.comes l.below l.into g.row.N

abbrev pub decreases-loop-place : goal.decreases-loop-place
decreases-loop-place g l = length l.rest
