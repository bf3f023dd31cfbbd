use Rattle.std.proofs.Common.{ℕ, ◌<◌}
use Rattle.lane_sim.specs.LaneSims.{lane_words}
use Rattle.lane_sim.proofs.Steps.{AreInputsTaken}
use Rattle.lane_sim.proofs.nets.take_inputs.Given as goal

abbrev pub invariant-loop-net : goal.invariant-loop-net
invariant-loop-net l = (j : ℕ) → j < 8 → AreInputsTaken l.module (lane_words j l.inputs) (lane_words j l.initial.nets) (lane_words j l.nets) l.initial.stale l.stale l.net
