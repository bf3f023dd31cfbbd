use Rattle.std.proofs.Common.{arith}
use Rattle.packet_bytes.proofs.Answering.{all_words_few}
use Rattle.packet_bytes.proofs.transfers.Transfers.words_due.Goals as goal

pub packets-init : goal.packets-init
packets-init c =
    let few = c.args.self.now.are_few in
    let words = all_words_few c.args.self.now.word_bytes c.args.self.now.packets.items in
    record { same = omega arith; few = omega arith }
