use Rattle.std.proofs.Common.{refl}
use Rattle.std.specs.Fmt.{digits}
use Rattle.verilog_writer.proofs.memory_is_spelled.Goals as goal

pub returns : goal.returns
unfolding digits
returns c = refl
