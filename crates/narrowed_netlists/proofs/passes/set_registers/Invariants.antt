use Rattle.std.proofs.Common.{◌≡◌, length}
use Rattle.netlist.specs.Longer.{Extends}
use Rattle.narrowed_netlists.specs.Copies.{HaveNext, AreWaiting}
use Rattle.narrowed_netlists.proofs.passes.set_registers.Given as goal

abbrev pub invariant-loop-net : goal.invariant-loop-net
invariant-loop-net l = record {
  next : HaveNext l.module l.builder l.registers l.nets l.cores l.net;
  waiting : AreWaiting l.module l.builder l.cores l.net (length l.module.lines);
  extends : Extends l.fn.builder l.builder;
  memories : l.builder.memories ≡ l.fn.builder.memories;
  drivers : l.builder.drivers ≡ l.fn.builder.drivers;
}
