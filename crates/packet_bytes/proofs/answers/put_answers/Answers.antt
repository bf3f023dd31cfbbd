use Rattle.std.proofs.Common.{◌≡◌, ◌+◌, ◌∷◌, [], true, false, drop, sym, ap, subst, ◌∙◌}
use Rattle.std.proofs.lemmas.List.{drop_more, drop_all}
use Rattle.marked_bytes.specs.Packing.{packed, Writes}
use Rattle.packet_bytes.specs.Answers.{beats_due, words_due, answer, is_answered, replies_of, replies_text}
use Rattle.packet_bytes.proofs.Sending.{text_none, text_more, rest_is, sized_rest}
use Rattle.packet_bytes.proofs.answers.put_answers.Goals as goal

pub packets-init : goal.packets-init
packets-init g c = record { sized = c.requires.sized; goes_on = λ holds after whole h. h }

pub returns-then-not-is_answered : goal.returns-then-not-is_answered
returns-then-not-is_answered g c =
    let packets = c.args.packets.now in
    let i = c.packets.packet-index in
    let packet = c.packet-item.result in
    let beats = c.packets.beats in
    let given = c.packets.given.now in
    let cut : drop i packets ≡ packet ∷ drop (i + 1) packets = drop_more packets i packet c.packets-test.true ∙ ap (λ p. p ∷ drop (i + 1) packets) (sym c.packet-item.is) in
    let no : is_answered c.args.word_bytes packet.bytes beats given ≡ false =
    ap (λ bytes. is_answered c.args.word_bytes bytes beats given) (sym c.as_slice-bytes.ensures) ∙ sym c.is_answered.ensures ∙ c.if-not-is_answered.true in
    c.packets.invariant.goes_on _ _ true
    (subst (λ t. Writes t (g.K.Sink.held c.packets.sink) (g.K.Sink.held c.packets.sink) (g.K.Sink.faults c.packets.sink) (g.K.Sink.faults c.packets.sink) true)
    (sym (text_none c.args.word_bytes (drop i packets) (drop (i + 1) packets) packet beats given cut no))
    (c.texts_are_written_in_order.ensures.none (g.K.Sink.held c.packets.sink) (g.K.Sink.faults c.packets.sink)))

pub returns-then-not-put_answer : goal.returns-then-not-put_answer
returns-then-not-put_answer g c =
    let packets = c.args.packets.now in
    let i = c.packets.packet-index in
    let packet = c.packet-item.result in
    let beats = c.packets.beats in
    let given = c.packets.given.now in
    let cut : drop i packets ≡ packet ∷ drop (i + 1) packets = drop_more packets i packet c.packets-test.true ∙ ap (λ p. p ∷ drop (i + 1) packets) (sym c.packet-item.is) in
    let yes : is_answered c.args.word_bytes packet.bytes beats given ≡ true =
    ap (λ bytes. is_answered c.args.word_bytes bytes beats given) (sym c.as_slice-bytes.ensures) ∙ sym c.is_answered.ensures ∙ c.if-not-is_answered.false in
    c.packets.invariant.goes_on _ _ false
    (subst (λ t. Writes t (g.K.Sink.held c.packets.sink) (g.K.Sink.held c.put_answer.new.sink) (g.K.Sink.faults c.packets.sink) (g.K.Sink.faults c.put_answer.new.sink) false)
    (text_more c.args.word_bytes (drop i packets) (drop (i + 1) packets) packet beats given cut yes)
    (c.texts_are_written_in_order.ensures.first _ _ _ _ _ _
    (subst (λ w. Writes (packed packet.channel (answer c.args.word_bytes packet.bytes given)) (g.K.Sink.held c.packets.sink) (g.K.Sink.held c.put_answer.new.sink) (g.K.Sink.faults c.packets.sink) (g.K.Sink.faults c.put_answer.new.sink) w)
    c.if-not-put_answer.true c.put_answer.ensures)))

pub packets-preserved : goal.packets-preserved
packets-preserved g c =
    let packets = c.args.packets.now in
    let i = c.packets.packet-index in
    let packet = c.packet-item.result in
    let beats = c.packets.beats in
    let given = c.packets.given.now in
    let cut : drop i packets ≡ packet ∷ drop (i + 1) packets = drop_more packets i packet c.packets-test.true ∙ ap (λ p. p ∷ drop (i + 1) packets) (sym c.packet-item.is) in
    let yes : is_answered c.args.word_bytes packet.bytes beats given ≡ true =
    ap (λ bytes. is_answered c.args.word_bytes bytes beats given) (sym c.as_slice-bytes.ensures) ∙ sym c.is_answered.ensures ∙ c.if-not-is_answered.false in
    let left = rest_is c.args.word_bytes (drop (i + 1) packets) packet.bytes beats given c.beats_due-beats.result c.words_due.result
    (c.beats_due-beats.ensures ∙ ap (beats_due c.args.word_bytes) c.as_slice-bytes.ensures) (c.words_due.ensures.value ∙ ap (words_due c.args.word_bytes) c.as_slice-bytes.ensures) in
    record {
      sized = sized_rest (drop i packets) (drop (i + 1) packets) packet cut c.packets.invariant.sized;
      goes_on = λ holds after whole h.
          c.packets.invariant.goes_on holds after whole
          (subst (λ t. Writes t (g.K.Sink.held c.packets.sink) holds (g.K.Sink.faults c.packets.sink) after whole)
          (text_more c.args.word_bytes (drop i packets) (drop (i + 1) packets) packet beats given cut yes)
          (c.texts_are_written_in_order.ensures.both _ _ _ _ _ _ _ _ _
          (subst (λ w. Writes (packed packet.channel (answer c.args.word_bytes packet.bytes given)) (g.K.Sink.held c.packets.sink) (g.K.Sink.held c.put_answer.new.sink) (g.K.Sink.faults c.packets.sink) (g.K.Sink.faults c.put_answer.new.sink) w)
          c.if-not-put_answer.false c.put_answer.ensures)
          (subst (λ t. Writes t (g.K.Sink.held c.put_answer.new.sink) holds (g.K.Sink.faults c.put_answer.new.sink) after whole) left h)));
    }

pub returns : goal.returns
returns g c =
    let packets = c.args.packets.now in
    let done : drop c.packets.packet-index packets ≡ [] = drop_all c.packets.packet-index packets c.packets-test.false in
    c.packets.invariant.goes_on _ _ true
    (subst (λ t. Writes t (g.K.Sink.held c.packets.sink) (g.K.Sink.held c.packets.sink) (g.K.Sink.faults c.packets.sink) (g.K.Sink.faults c.packets.sink) true)
    (ap (λ ps. replies_text (replies_of c.args.word_bytes ps c.packets.beats c.packets.given.now)) (sym done))
    (c.texts_are_written_in_order.ensures.none (g.K.Sink.held c.packets.sink) (g.K.Sink.faults c.packets.sink)))
