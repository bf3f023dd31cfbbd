use Rattle.std.proofs.Common.{◌∙◌}
use Rattle.lane_sim.proofs.planes.PlaneLemmas.{masked}
use Rattle.lane_sim.proofs.planes.plane.Plane.low_bits.Goals as goal

pub returns : goal.returns
returns c j lt = c.and.ensures j lt ∙ masked _ _ _ (c.full.ensures j lt)
