use Rattle.std.proofs.Common.{◌≡◌, ◌≤◌, ◌-◌, length}
use Rattle.vcd_text.specs.Dumps.{widths_of}
use Rattle.vcd_reader.specs.Readings.{first_values}
use Rattle.vcd_reader.proofs.ValueSteps.{values_behind}
use Rattle.vcd_reader.proofs.values.first_values.Given as goal

abbrev pub invariant-ports : goal.invariant-ports
invariant-ports l = record {
  few : length l.row.items ≤ length l.ports;
  goes_on : first_values 0 (widths_of l.ports) l.fn.reader ≡ values_behind (widths_of l.ports) l.row.items l.reader;
}

abbrev pub decreases-ports : goal.decreases-ports
decreases-ports l = length l.ports - length l.row.items
