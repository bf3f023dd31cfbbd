use Rattle.std.proofs.Common.{◌≡◌, take}
use Rattle.system_tables.proofs.system.copy.copy_components.Given as goal

abbrev pub invariant-loop-component : goal.invariant-loop-component
invariant-loop-component l = l.copy ≡ take l.component-index l.component-items
