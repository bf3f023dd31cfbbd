use Rattle.std.proofs.Common.{◌≡◌, take}
use Rattle.port_rows.specs.Rows.{blank_row}
use Rattle.port_rows.proofs.row.InputRow.blank.Given as goal

abbrev pub invariant-ports : goal.invariant-ports
invariant-ports l = l.values.items ≡ blank_row (take l.port-index l.port-items)
