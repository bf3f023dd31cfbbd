use Rattle.marked_bytes.proofs.Packets.{one_packet}
use Rattle.marked_bytes.proofs.laws.packed_is_one_packet.Goals as goal

pub returns : goal.returns
returns c = one_packet
