use Rattle.std.proofs.Common.{ℕ, ◌<◌}
use Rattle.lane_sim.specs.LaneSims.{cells_at, lane_words}
use Rattle.lane_sim.proofs.Steps.{IsEvaluatedIn}
use Rattle.lane_sim.proofs.nets.evaluate_block.Given as goal

abbrev pub invariant-loop-net : goal.invariant-loop-net
invariant-loop-net l = (j : ℕ) → j < 8 → IsEvaluatedIn l.module (cells_at l.cells j).words (lane_words j l.initial.nets) (lane_words j l.nets) l.stale l.net
