use Rattle.std.proofs.Common.{◌≡◌, ◌<◌, ℕ, length, slice_get, slice_index_or, Some}
use Rattle.av_base.specs.Word.{word}
use Rattle.simulations.specs.declared.campaigns.lane_bench.LaneBench.{LaneBench}
use Rattle.simulations.proofs.campaigns.inputs.inputs_at.Given as goal

abbrev pub invariant-loop-lane : goal.invariant-loop-lane
invariant-loop-lane l = record {
  count : length l.values ≡ 8;
  values : (k : ℕ) (lane : LaneBench) → k < l.lane → slice_get l.benches k ≡ Some lane → slice_get l.values k ≡ Some (slice_index_or lane.bench.row l.place (word 0 0));
}
