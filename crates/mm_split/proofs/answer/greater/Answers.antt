use Rattle.std.proofs.Common.{◌≡◌, max, ◌∙◌, sym}
use Rattle.netlist.specs.Runs.{Always}
use Rattle.net_parts.specs.Laws.{if_ok}
use Rattle.mm_split.proofs.Bits.{greater_is}
use Rattle.mm_split.proofs.answer.greater.Goals as goal

pub emit_word-requires : goal.emit_word-requires
emit_word-requires c = ((c.requires.one, c.requires.other.is_net, sym c.requires.other.has_width), c.requires.other.is_net, c.requires.one, c.requires.other.has_width)

pub returns-clause-value : goal.returns-clause-value
returns-clause-value c =
    if_ok c.emit_word.result _ (λ net. Always c.emit_word.new.builder (λ cycle. cycle.net net.number ≡ max (cycle.net c.args.one.number) (cycle.net c.args.other.number)))
    (λ net value cycle v. value cycle v ∙ greater_is _ _)
    c.emit_word.ensures.value
