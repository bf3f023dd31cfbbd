use Rattle.std.proofs.Common.{◌-◌, ◌^◌, length}
use Rattle.std.specs.Prelude.{All}
use Rattle.verilog_reader.specs.Spots.{IsWithin}
use Rattle.verilog_reader.specs.PortNames.{AreNamed, HasWires}
use Rattle.verilog_reader.proofs.HeaderSteps.{Listed}
use Rattle.verilog_reader.proofs.header_lines.port_lines.Given as goal

abbrev pub invariant-ports : goal.invariant-ports
invariant-ports l = record {
  within : IsWithin l.bytes l.at;
  named : AreNamed l.ports l.names;
  widths : All HasWires l.ports;
  listed : Listed l.bytes l.fn.spot l.at l.ports;
}

abbrev pub decreases-ports : goal.decreases-ports
decreases-ports l = 2 ^ 32 - length l.ports
