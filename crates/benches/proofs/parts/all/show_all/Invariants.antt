use Rattle.std.proofs.Common.{◌≡◌, flat_map, take, drop}
use Rattle.port_rows.specs.Levels.{AllFit, set_levels}
use Rattle.benches.proofs.parts.all.show_all.Given as goal

abbrev pub invariant-components : goal.invariant-components
invariant-components g l = record {
  set : l.row ≡ set_levels l.initial.row (flat_map g.C.Component.sets (take l.component-index l.components));
  fits : AllFit l.row (flat_map g.C.Component.sets (drop l.component-index l.components));
}
