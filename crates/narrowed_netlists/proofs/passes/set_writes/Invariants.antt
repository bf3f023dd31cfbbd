use Rattle.std.proofs.Common.{◌≡◌, length}
use Rattle.netlist.specs.Netlists.{IsClocked}
use Rattle.netlist.specs.Longer.{Extends}
use Rattle.narrowed_netlists.specs.Copies.{HaveWrites, MemoriesWait}
use Rattle.narrowed_netlists.proofs.passes.set_writes.Given as goal

abbrev pub invariant-loop-number : goal.invariant-loop-number
invariant-loop-number l = record {
  writes : HaveWrites l.module l.builder l.memories l.nets l.number;
  waits : MemoriesWait l.builder l.number (length l.module.memories);
  clocked : IsClocked l.builder;
  extends : Extends l.fn.builder l.builder;
  drivers : l.builder.drivers ≡ l.fn.builder.drivers;
}
