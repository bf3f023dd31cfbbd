use Rattle.std.proofs.Common.{ℕ, ◌<◌}
use Rattle.lane_sim.specs.LaneSims.{lane_words}
use Rattle.lane_sim.specs.Changes.{lane_changes}
use Rattle.lane_sim.proofs.Orders.{AreTaken}
use Rattle.lane_sim.proofs.nets.take_next.Given as goal

abbrev pub invariant-loop-place : goal.invariant-loop-place
invariant-loop-place l = (j : ℕ) → j < 8 → AreTaken l.module l.registers (lane_changes j l.changes) l.count (lane_words j l.initial.nets) (lane_words j l.nets) l.initial.stale l.stale l.place
