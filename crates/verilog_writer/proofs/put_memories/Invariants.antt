use Rattle.std.proofs.Common.{◌≡◌, ◌++◌, drop, string_bytes}
use Rattle.verilog_writer.specs.Text.{memories_text}
use Rattle.verilog_writer.proofs.put_memories.Given as goal

abbrev pub invariant-loop-number : goal.invariant-loop-number
invariant-loop-number l =
    string_bytes l.text ++ memories_text l.number (drop l.number l.module.memories) ≡ string_bytes l.fn.text ++ memories_text 0 l.module.memories
