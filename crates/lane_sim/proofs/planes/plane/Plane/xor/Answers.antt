use Rattle.std.proofs.Common.{bit_xor}
use Rattle.lane_sim.proofs.planes.PlaneLemmas.{lanes-zip2, xor_below}
use Rattle.lane_sim.proofs.planes.plane.Plane.xor.Goals as goal

pub invariant_of-result : goal.invariant_of-result
invariant_of-result c = lanes-zip2 bit_xor c.self.inside.0 c.other.inside.0 c.self.invariant c.other.invariant xor_below
