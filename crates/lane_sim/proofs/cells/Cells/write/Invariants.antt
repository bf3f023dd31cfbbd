use Rattle.std.proofs.Common.{◌≡◌}
use Rattle.lane_sim.specs.LaneSims.{lane_words}
use Rattle.lane_sim.proofs.Words.{AreWritten}
use Rattle.lane_sim.proofs.cells.Cells.write.Given as goal

abbrev pub invariant-loop-m : goal.invariant-loop-m
invariant-loop-m l = record {
  same : l.self-inside.places.items ≡ l.initial.self-inside.places.items;
  written : AreWritten l.module (lane_words l.lane l.nets) l.initial.self-inside.words.items l.self-inside.words.items l.m;
}
