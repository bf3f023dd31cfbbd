use Rattle.std.proofs.Common.{◌≡◌, ◌++◌, drop, string_bytes}
use Rattle.verilog_writer.specs.Text.{ports_text}
use Rattle.verilog_writer.proofs.put_ports.Given as goal

-- what is written and what the ports left are to give is what all of them are to give
abbrev pub invariant-loop-port : goal.invariant-loop-port
invariant-loop-port l = string_bytes l.text ++ ports_text (drop l.port-index l.module.ports) ≡ string_bytes l.fn.text ++ ports_text l.module.ports
