use Rattle.std.proofs.Common.{◌≡◌, ℕ, ◌%◌, ◌^◌, ◌∙◌, ap}
use Rattle.lane_sim.specs.LaneWords.{value_at, LaneWord}
use Rattle.lane_sim.proofs.planes.Halves.{low_half}
use Rattle.lane_sim.proofs.planes.value.LaneVal.low.Goals as goal

pub returns-clause-lanes : goal.returns-clause-lanes
returns-clause-lanes c j lt = low_half _ _ (c.self.invariant.low.fit j lt) ∙ ap (λ (x : LaneWord). (value_at x j).bits % 2 ^ 64) c.self.view_is
