use Rattle.std.proofs.Common.{◌≡◌}
use Rattle.cycle_sim.proofs.Words.{AreWritten}
use Rattle.cycle_sim.proofs.cells.Cells.write.Given as goal

abbrev pub invariant-loop-m : goal.invariant-loop-m
invariant-loop-m l = record {
  same : l.self.places.items ≡ l.initial.self.places.items;
  written : AreWritten l.module l.nets l.initial.self.words.items l.self.words.items l.m;
}
