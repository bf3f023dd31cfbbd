use Rattle.std.proofs.Common.{ℕ, ◌<◌}
use Rattle.lane_sim.specs.LaneSims.{lane_words}
use Rattle.lane_sim.proofs.Settling.{AreWrittenStale}
use Rattle.lane_sim.proofs.put.mark_written.Given as goal

abbrev pub invariant-loop-m : goal.invariant-loop-m
invariant-loop-m l = (j : ℕ) → j < 8 → AreWrittenStale l.module (lane_words j l.nets) l.readers.of_memories l.initial.stale l.stale l.m
