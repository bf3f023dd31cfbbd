use Rattle.std.proofs.Common.{◌≡◌, length}
use Rattle.netlist.specs.Longer.{Extends}
use Rattle.narrowed_netlists.specs.Copies.{HaveCopies, AreWaiting, KeepsFixed, AddsFixed}
use Rattle.narrowed_netlists.proofs.passes.copied_nets.Given as goal

abbrev pub invariant-loop-net : goal.invariant-loop-net
invariant-loop-net l = record {
  nets : length l.nets.items ≡ l.net;
  cores : length l.cores.items ≡ l.net;
  copies : HaveCopies l.module l.builder l.registers l.memories l.nets.items l.cores.items l.net;
  fixed : KeepsFixed l.module l.builder l.nets.items l.net;
  adds : AddsFixed l.module l.builder l.net;
  waiting : AreWaiting l.module l.builder l.cores.items 0 l.net;
  extends : Extends l.fn.builder l.builder;
  memories : l.builder.memories ≡ l.fn.builder.memories;
  drivers : l.builder.drivers ≡ l.fn.builder.drivers;
}
