use Rattle.std.proofs.Common.{◌≡◌, ◌<◌, ℕ, length, slice_get, Some}
use Rattle.simulations.specs.declared.campaigns.lane_bench.LaneBench.{LaneBench}
use Rattle.simulations.proofs.campaigns.counted.counts_in.Given as goal

abbrev pub invariant-loop-lane : goal.invariant-loop-lane
invariant-loop-lane l = record {
  count : length l.counts ≡ 8;
  done : (k : ℕ) (lane : LaneBench) → k < l.lane → slice_get l.benches k ≡ Some lane → slice_get l.counts k ≡ Some lane.counts;
}
