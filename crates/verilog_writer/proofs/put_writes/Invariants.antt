use Rattle.std.proofs.Common.{◌≡◌, ◌++◌, drop, string_bytes}
use Rattle.verilog_writer.specs.Text.{writes_text}
use Rattle.verilog_writer.proofs.put_writes.Given as goal

abbrev pub invariant-loop-number : goal.invariant-loop-number
invariant-loop-number l =
    string_bytes l.text ++ writes_text l.number (drop l.number l.module.memories) ≡ string_bytes l.fn.text ++ writes_text 0 l.module.memories
