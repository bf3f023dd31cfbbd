use Rattle.std.proofs.Common.{◌≡◌, ℕ, Bool, true, List, Option, drop}
use Rattle.marked_bytes.specs.Packing.{Writes}
use Rattle.packet_bytes.specs.Counts.{are_sized}
use Rattle.packet_bytes.specs.Answers.{replies_of, replies_text}
use Rattle.packet_bytes.proofs.answers.put_answers.Given as goal

-- where the replies to the packets that are left are written, all of them are
abbrev pub invariant-packets : goal.invariant-packets
invariant-packets g l = record {
  sized : are_sized (drop l.packet-index l.packets) ≡ true;
  goes_on : (holds : Option (List ℕ)) (after : ℕ) (whole : Bool)
      → Writes (replies_text (replies_of l.word_bytes (drop l.packet-index l.packets) l.beats l.given)) (g.K.Sink.held l.sink) holds (g.K.Sink.faults l.sink) after whole
      → Writes (replies_text (replies_of l.word_bytes l.packets l.accepted l.words)) (g.K.Sink.held l.initial.sink) holds (g.K.Sink.faults l.initial.sink) after whole;
}
