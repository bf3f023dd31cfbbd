use Rattle.std.proofs.Common.{◌≡◌, ◌+◌, ◌≤◌, length, drop}
use Rattle.std.specs.Prelude.{is_some}
use Rattle.waves.specs.Cuts.{texts_from}
use Rattle.waves.specs.Rows.{row_of, values}
use Rattle.waves.proofs.rows.is_row.Given as goal

abbrev pub invariant-values : goal.invariant-values
invariant-values l = (is_some (row_of l.widths l.line) ≡ is_some (values (drop l.width-index l.widths) (texts_from l.at l.line))) × (l.at ≤ length l.line + 1)
