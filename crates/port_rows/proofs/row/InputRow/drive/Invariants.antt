use Rattle.std.proofs.Common.{◌≡◌, take, drop}
use Rattle.port_rows.specs.Levels.{levels_for, set_levels, AllFit}
use Rattle.port_rows.proofs.row.InputRow.drive.Given as goal

abbrev pub invariant-driven : goal.invariant-driven
invariant-driven l = (l.self ≡ set_levels l.initial.self (levels_for (take l.one-index l.driven))) × AllFit l.self (levels_for (drop l.one-index l.driven))
