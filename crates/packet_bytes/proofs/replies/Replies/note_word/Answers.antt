use Rattle.std.proofs.Common.{◌<◌, ◌++◌, ◌∷◌, [], length, take, ap, ◌∙◌, length-append, arith}
use Rattle.std.specs.Int.{bytes_low_first}
use Rattle.packet_bytes.proofs.Answering.{bytes_noted, take-bytes_low_first, most_bytes}
use Rattle.packet_bytes.proofs.Sizes.{known}
use Rattle.packet_bytes.proofs.replies.Replies.note_word.Goals as goal

pub returns-clause-noted : goal.returns-clause-noted
returns-clause-noted c = λ beats words h.
    let held = c.args.self.now in
    let word_bytes = held.transfers.word_bytes in
    let word = c.args.word.bits in
    let room : length words < held.due = let n = h.count in omega arith in
    record {
      beats_are = h.beats_are;
      bytes_are =
          c.in-Ok.ensures.items
          ∙ ap (λ lanes. held.bytes.items ++ take word_bytes lanes) c.to_le_bytes-lanes.ensures
          ∙ ap (λ bits. held.bytes.items ++ take word_bytes (bytes_low_first 0 16 bits)) c.bits.ensures.value
          ∙ ap (λ lanes. held.bytes.items ++ lanes) (take-bytes_low_first 0 16 word_bytes word (most_bytes word_bytes (known word_bytes held.transfers.sized)))
          ∙ ap (λ bytes. bytes ++ bytes_low_first 0 word_bytes word) h.bytes_are
          ∙ bytes_noted word_bytes held.due word words room;
      count = omega (arith, length-append words (word ∷ []));
    }
