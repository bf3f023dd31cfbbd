use Rattle.std.proofs.Common.{length}
use Rattle.std.specs.Prelude.{All}
use Rattle.vcd_reader.specs.Reads.{AreNamed, HasBits}
use Rattle.vcd_reader.proofs.HeaderSteps.{AreListed}
use Rattle.vcd_reader.proofs.header.port_lines.Given as goal

abbrev pub invariant-ports : goal.invariant-ports
invariant-ports l = record {
  named : AreNamed l.ports l.names;
  bits : All HasBits l.ports;
  listed : AreListed l.fn.reader l.ports l.reader;
}

abbrev pub decreases-ports : goal.decreases-ports
decreases-ports l = length l.reader
