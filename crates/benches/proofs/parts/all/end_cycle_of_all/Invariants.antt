use Rattle.benches.proofs.parts.Many.{AreBehind}
use Rattle.benches.proofs.parts.all.end_cycle_of_all.Given as goal

abbrev pub invariant-components : goal.invariant-components
invariant-components g l = AreBehind (λ (old new : g.row.C.Denot). g.C.Component.follows old l.sim new) l.initial.components l.components l.component-index
