use Rattle.packet_bytes.proofs.Sizes.{known}
use Rattle.packet_bytes.proofs.transfers.Transfers.size_is_known.Goals as goal

pub returns : goal.returns
returns c = known c.args.self.now.word_bytes c.args.self.now.sized
