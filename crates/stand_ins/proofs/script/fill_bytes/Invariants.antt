use Rattle.std.proofs.Common.{◌≡◌, ◌+◌, drop}
use Rattle.memory_runs.specs.Operations.{memory_after}
use Rattle.stand_ins.specs.Contents.{writes_from}
use Rattle.stand_ins.specs.Memory.{contents_of}
use Rattle.stand_ins.proofs.script.fill_bytes.Given as goal

abbrev pub invariant-bytes : goal.invariant-bytes
invariant-bytes l = record {
  ahead : memory_after (contents_of l.memory) (writes_from (l.offset + l.k) (drop l.k l.bytes)) ≡ memory_after (contents_of l.fn.memory) (writes_from l.offset l.bytes);
  same : l.memory.word_bytes ≡ l.fn.memory.word_bytes;
}
