use Rattle.std.proofs.Common.{eqb, arith}
use Rattle.lane_sim.proofs.planes.PlaneLemmas.{lanes-chosen, lane-picked, lanes-splat}
use Rattle.lane_sim.proofs.planes.plane.Plane.pick.Goals as goal

pub invariant_of-result : goal.invariant_of-result
invariant_of-result c = lanes-chosen eqb c.self.inside.0 _ _ _ c.self.invariant (lanes-splat 0 (omega arith)) c.b.invariant c.a.invariant

pub returns : goal.returns
returns c j lt = lane-picked c.self.inside.0 c.b.inside.0 c.a.inside.0 c.args.self c.args.b c.args.a j c.self.invariant c.b.invariant c.a.invariant c.self.view_is c.b.view_is c.a.view_is lt
