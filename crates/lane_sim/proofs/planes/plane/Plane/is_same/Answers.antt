use Rattle.lane_sim.proofs.planes.PlaneLemmas.{same_lanes}
use Rattle.lane_sim.proofs.planes.plane.Plane.is_same.Goals as goal

pub returns : goal.returns
returns c = same_lanes c.self.inside.0 c.other.inside.0 c.args.self c.args.other c.self.invariant c.other.invariant c.self.view_is c.other.view_is
