use Rattle.std.proofs.Common.{◌≡◌, take, ap, subst, ◌∙◌}
use Rattle.marked_bytes.specs.Packing.{Writes}
use Rattle.packet_bytes.specs.Answers.{replies_of, replies_text, bytes_of}
use Rattle.packet_bytes.proofs.Answering.{noted_enough}
use Rattle.packet_bytes.proofs.Sizes.{known}
use Rattle.packet_bytes.proofs.replies.Replies.write.Goals as goal

pub returns : goal.returns
returns g c = λ beats words h.
    let held = c.args.self.now in
    let word_bytes = held.transfers.word_bytes in
    let packets = held.transfers.packets.items in
    let e : replies_of word_bytes c.as_slice.result.now held.beats c.as_slice-2.result.now ≡ replies_of word_bytes packets beats (bytes_of word_bytes words) =
    ap (λ ps. replies_of word_bytes ps held.beats c.as_slice-2.result.now) c.as_slice.ensures.value
    ∙ ap (replies_of word_bytes packets held.beats) (c.as_slice-2.ensures.value ∙ h.bytes_are)
    ∙ ap (λ n. replies_of word_bytes packets n (bytes_of word_bytes (take held.due words))) h.beats_are
    ∙ noted_enough word_bytes packets beats held.due words (known word_bytes held.transfers.sized) held.transfers.are_few held.are_due in
    subst (λ replies. Writes (replies_text replies) (g.K.Sink.held c.args.sink.now) (g.K.Sink.held c.put_answers.new.sink) (g.K.Sink.faults c.args.sink.now) (g.K.Sink.faults c.put_answers.new.sink) c.put_answers.result) e c.put_answers.ensures
