use Rattle.std.proofs.Common.{◌≡◌, ◌++◌, length, take, drop, true}
use Rattle.std.specs.Prelude.{is_some, option_map}
use Rattle.waves.specs.Cuts.{texts_from}
use Rattle.waves.specs.Rows.{row_of, values}
use Rattle.waves.proofs.rows.read_row.Given as goal

abbrev pub invariant-values : goal.invariant-values
invariant-values l = (row_of l.widths l.line ≡ option_map (λ rest. take l.k l.into ++ rest) (values (drop l.k l.widths) (texts_from l.at l.line)))
    × (is_some (values (drop l.k l.widths) (texts_from l.at l.line)) ≡ true) × (length l.into ≡ length l.widths)
