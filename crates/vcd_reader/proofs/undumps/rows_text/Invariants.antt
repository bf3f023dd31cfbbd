use Rattle.std.proofs.Common.{◌≡◌, ◌<◌, ◌++◌, drop, length, string_bytes}
use Rattle.vcd_reader.specs.Undumps.{row_lines}
use Rattle.vcd_reader.proofs.undumps.rows_text.Given as goal

abbrev pub invariant-rows : goal.invariant-rows
invariant-rows l = record {
  all : l.rows.rows ≡ l.dump.rows;
  at : l.cycle < length l.dump.rows → l.rows.cycle ≡ l.cycle;
  goes_on : string_bytes l.text ++ row_lines l.dump.ports l.cycle (drop l.cycle l.dump.rows) ≡ row_lines l.dump.ports 0 l.dump.rows;
}
