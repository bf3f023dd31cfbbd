use Rattle.lane_sim.specs.LaneSims.{lane_of}
use Rattle.simulations.specs.Phases.{HasAnswered}
use Rattle.simulations.proofs.campaigns.Many.{AreDone}
use Rattle.simulations.proofs.campaigns.all.answer_all.Given as goal

abbrev pub invariant-loop-lane : goal.invariant-loop-lane
invariant-loop-lane l = AreDone (λ j old new. HasAnswered (lane_of l.lanes j) old new) l.initial.benches l.benches l.lane
