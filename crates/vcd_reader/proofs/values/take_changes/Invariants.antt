use Rattle.std.proofs.Common.{◌≡◌, ◌≤◌, ◌-◌, suc, length}
use Rattle.vcd_text.specs.Dumps.{widths_of}
use Rattle.vcd_reader.specs.Readings.{change_lines}
use Rattle.vcd_reader.proofs.ValueSteps.{AreTaken}
use Rattle.vcd_reader.proofs.values.take_changes.Given as goal

abbrev pub invariant-changes : goal.invariant-changes
invariant-changes l = record {
  each : length l.row ≡ length l.ports;
  within : l.next ≤ length l.ports;
  taken : AreTaken (widths_of l.ports) (change_lines (suc (length (widths_of l.ports))) (widths_of l.ports) 0 l.fn.row l.fn.reader) l.next l.row l.reader;
}

abbrev pub decreases-changes : goal.decreases-changes
decreases-changes l = length l.ports - l.next
