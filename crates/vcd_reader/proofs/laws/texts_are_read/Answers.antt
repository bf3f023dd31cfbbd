use Rattle.vcd_reader.proofs.Whole.{dump_is_read}
use Rattle.vcd_reader.proofs.laws.texts_are_read.Goals as goal

pub returns : goal.returns
returns c = dump_is_read
