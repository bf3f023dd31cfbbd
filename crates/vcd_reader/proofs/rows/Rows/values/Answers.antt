use Rattle.std.proofs.Common.{Some, sym, ap, ◌∙◌}
use Rattle.vcd_text.specs.Dumps.{widths_of}
use Rattle.vcd_reader.specs.Readings.{row_lines}
use Rattle.vcd_reader.specs.Reads.{rows_told}
use Rattle.vcd_reader.proofs.RowSteps.{row_there}
use Rattle.vcd_reader.proofs.rows.Rows.values.Goals as goal

pub returns : goal.returns
returns c =
    let in_ = c.self.inside in
    let is = c.self.invariant in
    let found = row_lines (widths_of in_.ports.now) in_.text.now in
    rw (← c.self.view_is) (row_there (widths_of in_.ports.now) found (rows_told found) in_.cycle in_.until in_.row.items in_.reader is.under is.within is.told ∙ ap Some (sym c.as_slice.ensures.value))
