use Rattle.std.proofs.Common.{ℕ, ◌<◌, ◌≡◌, length}
use Rattle.lane_sim.specs.LaneSims.{lane_words}
use Rattle.lane_sim.specs.Changes.{lane_changes}
use Rattle.lane_sim.proofs.Orders.{AreGathered}
use Rattle.lane_sim.proofs.order.gather.Given as goal

abbrev pub invariant-loop-register : goal.invariant-loop-register
invariant-loop-register l = (j : ℕ) → j < 8 → AreGathered l.registers (lane_words j l.nets) (lane_changes j l.changes) l.count l.register-index
