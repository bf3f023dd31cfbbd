use Rattle.std.proofs.Common.{◌≡◌, drop, flat_map}
use Rattle.memory_runs.specs.Operations.{memory_after}
use Rattle.stand_ins.specs.Contents.{fills}
use Rattle.stand_ins.specs.Memory.{contents_of}
use Rattle.stand_ins.proofs.script.fill.Given as goal

abbrev pub invariant-statements : goal.invariant-statements
invariant-statements l = record {
  ahead : memory_after (contents_of l.memory) (flat_map fills (drop l.statement-index l.script)) ≡ memory_after (contents_of l.fn.memory) (flat_map fills l.script);
  same : l.memory.word_bytes ≡ l.fn.memory.word_bytes;
}
