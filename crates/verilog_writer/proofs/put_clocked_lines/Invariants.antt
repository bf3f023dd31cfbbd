use Rattle.std.proofs.Common.{◌≡◌, ◌++◌, drop, string_bytes}
use Rattle.verilog_writer.specs.Text.{clocked_text}
use Rattle.verilog_writer.proofs.put_clocked_lines.Given as goal

abbrev pub invariant-loop-net : goal.invariant-loop-net
invariant-loop-net l =
    string_bytes l.text ++ clocked_text l.net (drop l.net l.module.lines) ≡ string_bytes l.fn.text ++ clocked_text 0 l.module.lines
