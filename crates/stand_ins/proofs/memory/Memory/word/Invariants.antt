use Rattle.std.proofs.Common.{◌≡◌, ◌-◌, ◌<◌, ◌^◌, slice_index}
use Rattle.stand_ins.specs.Contents.{number_of}
use Rattle.stand_ins.proofs.memory.Memory.word.Given as goal

abbrev pub invariant-lanes : goal.invariant-lanes
invariant-lanes l = record {
  highest : l.word ≡ number_of (slice_index l.bytes) (l.self.word_bytes - l.k) l.k;
  small : l.word < 256 ^ l.k;
}
