use Rattle.std.proofs.Common.{◌/◌, ◌%◌, ◌^◌, arith, ◌∙◌, ap}
use Rattle.lane_sim.specs.Planes.{lane}
use Rattle.lane_sim.proofs.planes.PlaneLemmas.{lanes-zip2, lanes-splat, lane-with, div_below}
use Rattle.lane_sim.proofs.planes.plane.Plane.shift_right.Goals as goal

pub invariant_of-result : goal.invariant_of-result
invariant_of-result c = lanes-zip2 (λ a b. a / 2 ^ b) c.self.inside.0 _ c.self.invariant (lanes-splat c.from.result c.from.type_inv) (λ a b h k. div_below a (2 ^ b) h)

pub returns : goal.returns
returns c j lt = lane-with (λ a b. a / 2 ^ b) c.self.inside.0 c.args.self c.from.result j c.self.invariant c.self.view_is c.from.type_inv lt ∙ ap (λ n. lane c.args.self j / 2 ^ n) c.from.ensures
