use Rattle.std.proofs.Common.{◌≡◌, ℕ, ◌%◌, ◌/◌, ◌^◌, ◌<◌, length}
use Rattle.av_base.specs.Word.{IsWord}
use Rattle.lane_sim.specs.Planes.{lane}
use Rattle.lane_sim.specs.LaneWords.{word_in}
use Rattle.lane_sim.proofs.planes.value.LaneVal.from.Given as goal

abbrev pub invariant-loop-lane : goal.invariant-loop-lane
invariant-loop-lane l = record {
  low_count : length l.low ≡ 8;
  high_count : length l.high ≡ 8;
  low : (k : ℕ) → k < l.lane → lane l.low k ≡ (word_in l.values k).bits % 2 ^ 64;
  high : (k : ℕ) → k < l.lane → lane l.high k ≡ (word_in l.values k).bits / 2 ^ 64;
  words : (k : ℕ) → k < l.lane → IsWord (word_in l.values k).width (word_in l.values k).bits;
}
