use Rattle.std.proofs.Common.{ℕ, ◌<◌}
use Rattle.lane_sim.specs.LaneSims.{lane_words}
use Rattle.lane_sim.proofs.Next.{AreFirst}
use Rattle.lane_sim.proofs.nets.first_nets.Given as goal

abbrev pub invariant-loop-net : goal.invariant-loop-net
invariant-loop-net l = (j : ℕ) → j < 8 → AreFirst l.module.lines (lane_words j l.nets.items) l.net
