use Rattle.std.proofs.Common.{◌≡◌, ◌++◌, drop, string_bytes}
use Rattle.vcd_reader.specs.Undumps.{values_text}
use Rattle.vcd_reader.proofs.undumps.put_values.Given as goal

abbrev pub invariant-ports : goal.invariant-ports
invariant-ports l = string_bytes l.text ++ values_text (drop l.k l.ports) (drop l.k l.row) ≡ string_bytes l.fn.text ++ values_text l.ports l.row
