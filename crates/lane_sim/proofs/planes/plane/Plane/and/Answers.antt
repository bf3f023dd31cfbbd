use Rattle.std.proofs.Common.{bit_and}
use Rattle.lane_sim.proofs.planes.PlaneLemmas.{lanes-zip2, and_below}
use Rattle.lane_sim.proofs.planes.plane.Plane.and.Goals as goal

pub invariant_of-result : goal.invariant_of-result
invariant_of-result c = lanes-zip2 bit_and c.self.inside.0 c.other.inside.0 c.self.invariant c.other.invariant and_below
