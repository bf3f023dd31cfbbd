use Rattle.std.proofs.Common.{◌≡◌, ◌<◌, ℕ, length, slice_get, slice_index_or, Some}
use Rattle.av_base.specs.Word.{word}
use Rattle.lane_sim.specs.LaneWords.{LaneWord, value_at}
use Rattle.simulations.specs.declared.campaigns.lane_bench.LaneBench.{LaneBench}
use Rattle.simulations.proofs.campaigns.inputs.take_rows.Given as goal

abbrev pub invariant-loop-place : goal.invariant-loop-place
invariant-loop-place l = record {
  count : length l.inputs ≡ length l.initial.inputs;
  taken : (place : ℕ) (x : LaneWord) → place < l.place → slice_get l.inputs place ≡ Some x → (j : ℕ) (lane : LaneBench) → slice_get l.benches j ≡ Some lane
      → value_at x j ≡ slice_index_or lane.bench.row place (word 0 0);
}
