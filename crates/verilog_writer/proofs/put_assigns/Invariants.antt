use Rattle.std.proofs.Common.{◌≡◌, ◌++◌, drop, string_bytes}
use Rattle.verilog_writer.specs.Text.{assigns_text}
use Rattle.verilog_writer.proofs.put_assigns.Given as goal

abbrev pub invariant-loop-k : goal.invariant-loop-k
invariant-loop-k l =
    string_bytes l.text ++ assigns_text (drop l.k l.module.ports) (drop l.k l.module.drivers) ≡ string_bytes l.fn.text ++ assigns_text l.module.ports l.module.drivers
