use Rattle.std.proofs.Common.{◌≡◌, ℕ, ◌+◌, ◌<◌, length, slice_get, Some}
use Rattle.netlist.specs.declared.line.Memory.{Memory}
use Rattle.cycle_sim.specs.Sims.{place_of}
use Rattle.lane_sim.specs.LaneWords.{value_at, word_in}
use Rattle.lane_sim.specs.LaneSims.{cells_at}
use Rattle.lane_sim.proofs.cells.words_at.Given as goal

abbrev pub invariant-loop-lane : goal.invariant-loop-lane
invariant-loop-lane l = record {
  count : length l.values ≡ 8;
  words : (k : ℕ) → k < l.lane → slice_get (cells_at l.cells k).words (place_of l.module.memories l.memory + (value_at l.address k).bits) ≡ Some (word_in l.values k);
  widths : (k : ℕ) (m : Memory) → k < l.lane → slice_get l.module.memories l.memory ≡ Some m → (word_in l.values k).width ≡ m.width;
}
