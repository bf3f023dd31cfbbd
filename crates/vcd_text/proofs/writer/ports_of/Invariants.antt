use Rattle.std.proofs.Common.{◌≡◌, map, take}
use Rattle.vcd_text.specs.Dumps.{port_of}
use Rattle.vcd_text.proofs.writer.ports_of.Given as goal

abbrev pub invariant-ports : goal.invariant-ports
invariant-ports l = l.copies ≡ map port_of (take l.port-index l.ports)
