use Rattle.vcd_reader.proofs.DumpTold.{dump_told}
use Rattle.vcd_reader.proofs.laws.only_dumps_are_read.Goals as goal

pub returns : goal.returns
returns c = λ text rest dump e. dump_told text dump rest e
