use Rattle.std.proofs.Common.{◌≡◌, length}
use Rattle.netlist.specs.Longer.{Extends}
use Rattle.narrowed_netlists.specs.Copies.{AreMems, HaveMemories, MemoriesWait}
use Rattle.narrowed_netlists.proofs.copies.copied_memories.Given as goal

abbrev pub invariant-loop-number : goal.invariant-loop-number
invariant-loop-number l = record {
  count : length l.mems.items ≡ l.number;
  made : length l.builder.memories ≡ l.number;
  mems : AreMems l.module l.gaps l.mems.items l.number;
  narrow : HaveMemories l.module l.builder l.gaps l.number;
  waits : MemoriesWait l.builder 0 l.number;
  extends : Extends l.fn.builder l.builder;
  lines : l.builder.lines ≡ l.fn.builder.lines;
  drivers : l.builder.drivers ≡ l.fn.builder.drivers;
}
