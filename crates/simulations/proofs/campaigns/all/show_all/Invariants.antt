use Rattle.simulations.specs.Phases.{HasShown}
use Rattle.simulations.proofs.campaigns.Many.{AreDone}
use Rattle.simulations.proofs.campaigns.all.show_all.Given as goal

abbrev pub invariant-loop-lane : goal.invariant-loop-lane
invariant-loop-lane l = AreDone (λ j old new. HasShown old new) l.initial.benches l.benches l.lane
