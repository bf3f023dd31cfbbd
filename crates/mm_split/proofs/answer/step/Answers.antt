use Rattle.std.proofs.Common.{sym, ◌∙◌}
use Rattle.mm_split.proofs.Bits.{none_fits}
use Rattle.mm_split.proofs.answer.step.Goals as goal

pub emit_word-requires : goal.emit_word-requires
emit_word-requires c =
    let wide = c.width.ensures.value in
    let bounds = c.width.ensures.bounds in
    (c.requires.clears, (bounds.0, bounds.1, none_fits _), (c.requires.moves, c.requires.next.is_net, c.requires.register, c.requires.next.has_width), wide ∙ sym c.requires.next.has_width)
