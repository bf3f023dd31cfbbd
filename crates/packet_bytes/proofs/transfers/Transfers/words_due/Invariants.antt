use Rattle.std.proofs.Common.{◌≡◌, ◌+◌, ◌≤◌, drop}
use Rattle.packet_bytes.specs.Answers.{all_words_due}
use Rattle.packet_bytes.proofs.transfers.Transfers.words_due.Given as goal

abbrev pub invariant-packets : goal.invariant-packets
invariant-packets l = record {
  same : l.due + all_words_due l.self.word_bytes (drop l.packet-index l.self.packets.items) ≡ all_words_due l.self.word_bytes l.self.packets.items;
  few : all_words_due l.self.word_bytes l.self.packets.items ≤ 4096;
}
