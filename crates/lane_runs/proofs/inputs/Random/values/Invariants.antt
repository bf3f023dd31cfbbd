use Rattle.std.proofs.Common.{◌≡◌, ◌<◌, ℕ, length}
use Rattle.lane_sim.specs.LaneWords.{word_in}
use Rattle.lane_runs.proofs.inputs.Random.values.Given as goal

abbrev pub invariant-loop-lane : goal.invariant-loop-lane
invariant-loop-lane l = record {
  count : length l.values ≡ 8;
  widths : (k : ℕ) → k < l.lane → (word_in l.values k).width ≡ l.width;
}
