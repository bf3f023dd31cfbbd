use Rattle.marked_bytes.proofs.Running.{whole_is_fed}
use Rattle.marked_bytes.proofs.laws.whole_packets_are_read.Goals as goal

pub returns : goal.returns
returns c = whole_is_fed
