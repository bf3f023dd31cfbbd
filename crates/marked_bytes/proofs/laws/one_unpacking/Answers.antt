use Rattle.marked_bytes.proofs.Packets.{one_unpacking}
use Rattle.marked_bytes.proofs.laws.one_unpacking.Goals as goal

pub returns : goal.returns
returns c = one_unpacking
