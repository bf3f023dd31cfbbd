use Rattle.std.proofs.Common.{◌≡◌, ◌≤◌, ◌-◌, length}
use Rattle.vcd_text.specs.Dumps.{widths_of}
use Rattle.vcd_reader.specs.Readings.{row_lines}
use Rattle.vcd_reader.specs.Walks.{IsUnder}
use Rattle.vcd_reader.proofs.rows.row_lines.Given as goal

abbrev pub invariant-times : goal.invariant-times
invariant-times l = record {
  each : length l.row.items ≡ length l.ports;
  small : l.time ≤ 65536;
  under : IsUnder (widths_of l.ports) (row_lines (widths_of l.ports) l.fn.reader) l.time l.time l.row.items l.reader;
}

abbrev pub decreases-times : goal.decreases-times
decreases-times l = 65536 - l.time
