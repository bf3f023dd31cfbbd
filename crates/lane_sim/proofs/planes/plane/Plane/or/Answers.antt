use Rattle.std.proofs.Common.{bit_or}
use Rattle.lane_sim.proofs.planes.PlaneLemmas.{lanes-zip2, or_below}
use Rattle.lane_sim.proofs.planes.plane.Plane.or.Goals as goal

pub invariant_of-result : goal.invariant_of-result
invariant_of-result c = lanes-zip2 bit_or c.self.inside.0 c.other.inside.0 c.self.invariant c.other.invariant or_below
