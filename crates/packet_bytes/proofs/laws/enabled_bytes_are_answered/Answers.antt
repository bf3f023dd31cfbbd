use Rattle.packet_bytes.proofs.Touched.{enabled_are_read}
use Rattle.packet_bytes.proofs.laws.enabled_bytes_are_answered.Goals as goal

pub returns : goal.returns
returns c = enabled_are_read
