use Rattle.std.proofs.Common.{ℕ, ◌<◌}
use Rattle.lane_sim.specs.LaneSims.{cells_at, lane_words}
use Rattle.lane_sim.proofs.Steps.{IsEvaluatedTo}
use Rattle.lane_sim.proofs.nets.evaluate.Given as goal

abbrev pub invariant-loop-block : goal.invariant-loop-block
invariant-loop-block l = (j : ℕ) → j < 8 → IsEvaluatedTo l.module (lane_words j l.inputs) (cells_at l.cells j).words (lane_words j l.initial.nets) (lane_words j l.nets) l.stale l.block
