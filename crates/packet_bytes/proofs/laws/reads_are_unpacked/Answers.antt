use Rattle.packet_bytes.proofs.Unpacked.{reads_are_unpacked}
use Rattle.packet_bytes.proofs.laws.reads_are_unpacked.Goals as goal

pub returns : goal.returns
returns c = reads_are_unpacked
