use Rattle.packet_bytes.proofs.Leading.{answered, not_more}
use Rattle.packet_bytes.proofs.laws.leading_packets_are_answered.Goals as goal

pub returns : goal.returns
returns c = record { which = answered; few = not_more }
