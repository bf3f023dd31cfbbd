use Rattle.std.proofs.Common.{◌≡◌, ◌-◌, ℕ, length}
use Rattle.histories.specs.History.{numbers}
use Rattle.memory_runs.specs.Operations.{memory_after}
use Rattle.stand_ins.specs.Memory.{MemoryValue, with_bytes, lane_writes}
use Rattle.stand_ins.proofs.memory.written_lanes.Given as goal

abbrev pub invariant-lanes : goal.invariant-lanes
invariant-lanes l = record {
  long : length l.bytes ≡ 16;
  ahead : (memory : MemoryValue) (number : ℕ) → memory.word_bytes ≡ l.word_bytes →
      memory_after (with_bytes memory number l.bytes) (lane_writes l.word_bytes number l.word l.enables (numbers l.lane (l.word_bytes - l.lane)))
      ≡ memory_after (with_bytes memory number l.fn.stored) (lane_writes l.word_bytes number l.word l.enables (numbers 0 l.word_bytes));
}
