use Rattle.std.proofs.Common.{eqb, arith}
use Rattle.lane_sim.proofs.planes.PlaneLemmas.{lanes-chosen, lane-tested, lanes-splat}
use Rattle.lane_sim.proofs.planes.plane.Plane.equal.Goals as goal

pub invariant_of-result : goal.invariant_of-result
invariant_of-result c = lanes-chosen eqb c.self.inside.0 c.other.inside.0 _ _ c.self.invariant c.other.invariant (lanes-splat 1 (omega arith)) (lanes-splat 0 (omega arith))

pub returns : goal.returns
returns c j lt = lane-tested eqb c.self.inside.0 c.other.inside.0 c.args.self c.args.other j c.self.invariant c.other.invariant c.self.view_is c.other.view_is lt
