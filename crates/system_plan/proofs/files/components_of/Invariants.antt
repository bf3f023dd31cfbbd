use Rattle.std.proofs.Common.{take}
use Rattle.system_plan.specs.Systems.{AreComponents}
use Rattle.system_plan.proofs.files.components_of.Given as goal

abbrev pub invariant-loop-k : goal.invariant-loop-k
invariant-loop-k l = AreComponents (take l.k l.component_files) l.catalog
