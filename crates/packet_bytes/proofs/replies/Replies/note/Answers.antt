use Rattle.std.proofs.Common.{sym, subst}
use Rattle.packet_bytes.specs.Noted.{HasNoted, with_beat, with_word}
use Rattle.packet_bytes.proofs.replies.Replies.note.Goals as goal

pub returns-in-Some-clause-noted : goal.returns-in-Some-clause-noted
returns-in-Some-clause-noted c = λ beats words h.
    subst (λ w. HasNoted (with_beat beats c.args.write_taken) (with_word words w) c.note_word.new.self) (sym c.in-Some.is)
    (c.note_word.ensures.noted (with_beat beats c.args.write_taken) words (c.note_beat.ensures.noted beats words h))

pub returns-in_default-clause-noted : goal.returns-in_default-clause-noted
returns-in_default-clause-noted c = λ beats words h.
    subst (λ w. HasNoted (with_beat beats c.args.write_taken) (with_word words w) c.note_beat.new.self) (sym c.in_default.is) (c.note_beat.ensures.noted beats words h)
