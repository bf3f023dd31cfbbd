use Rattle.lane_sim.specs.LaneSims.{lane_of}
use Rattle.simulations.specs.Phases.{HasEnded}
use Rattle.simulations.proofs.campaigns.Many.{AreDone}
use Rattle.simulations.proofs.campaigns.all.end_all.Given as goal

abbrev pub invariant-loop-lane : goal.invariant-loop-lane
invariant-loop-lane l = AreDone (λ j old new. HasEnded (lane_of l.lanes j) old new) l.initial.benches l.benches l.lane
