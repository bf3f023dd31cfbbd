use Rattle.std.proofs.Common.{◌≡◌, ◌∙◌, arith}
use Rattle.netlist.specs.Runs.{Always}
use Rattle.net_parts.specs.Laws.{if_ok}
use Rattle.command_nets.specs.Levels.{one_fits}
use Rattle.mm_split.specs.Pieces.{or_first_mask}
use Rattle.mm_split.proofs.Bits.{some_or}
use Rattle.mm_split.proofs.command.asked_mask.Goals as goal

pub emit_word-requires : goal.emit_word-requires
emit_word-requires c = (c.requires.mask.is_net, c.requires.mask.is_net, (c.requires.some, omega (arith, c.requires.few), one_fits _ c.requires.some), c.requires.mask.has_width)

pub returns-clause-value : goal.returns-clause-value
returns-clause-value c =
    if_ok c.emit_word.result _ (λ net. Always c.emit_word.new.builder (λ cycle. cycle.net net.number ≡ or_first_mask (cycle.net c.args.mask.number)))
    (λ net value cycle v. value cycle v ∙ some_or (cycle.net c.args.mask.number) 1 (cycle.net c.args.mask.number))
    c.emit_word.ensures.value
