use Rattle.std.proofs.Common.{◌≡◌, ℕ, ◌/◌, ◌^◌, ◌∙◌, ap}
use Rattle.lane_sim.specs.LaneWords.{value_at, LaneWord}
use Rattle.lane_sim.proofs.planes.Halves.{high_half}
use Rattle.lane_sim.proofs.planes.value.LaneVal.high.Goals as goal

pub returns : goal.returns
returns c j lt = high_half _ _ (c.self.invariant.low.fit j lt) ∙ ap (λ (x : LaneWord). (value_at x j).bits / 2 ^ 64) c.self.view_is
