use Rattle.std.proofs.Common.{◌+◌, ◌-◌, ◌%◌, ◌^◌}
use Rattle.lane_sim.proofs.planes.PlaneLemmas.{lanes-zip2, mod_below}
use Rattle.lane_sim.proofs.planes.plane.Plane.sub.Goals as goal

pub invariant_of-result : goal.invariant_of-result
invariant_of-result c = lanes-zip2 (λ a b. (a + (2 ^ 64 - b)) % 2 ^ 64) c.self.inside.0 c.other.inside.0 c.self.invariant c.other.invariant (λ a b h k. mod_below (a + (2 ^ 64 - b)))
