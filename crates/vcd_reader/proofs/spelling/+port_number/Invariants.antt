use Rattle.std.proofs.Common.{length}
use Rattle.vcd_reader.proofs.spelling.+port_number.Given as goal

abbrev pub decreases-port_number : goal.decreases-port_number
decreases-port_number l = length l.code.now
