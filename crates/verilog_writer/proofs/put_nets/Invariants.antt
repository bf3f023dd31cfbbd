use Rattle.std.proofs.Common.{◌≡◌, ◌++◌, drop, string_bytes}
use Rattle.verilog_writer.specs.Text.{nets_text}
use Rattle.verilog_writer.proofs.put_nets.Given as goal

abbrev pub invariant-loop-net : goal.invariant-loop-net
invariant-loop-net l =
    string_bytes l.text ++ nets_text l.module.ports l.net (drop l.net l.module.lines) ≡ string_bytes l.fn.text ++ nets_text l.module.ports 0 l.module.lines
