use Rattle.std.proofs.Common.{◌≡◌, not, ◌&&◌, ◌∙◌, arith}
use Rattle.histories.specs.History.{is_raised}
use Rattle.netlist.specs.Runs.{Always}
use Rattle.net_parts.specs.Laws.{if_ok}
use Rattle.command_nets.specs.Nets.{raw_in}
use Rattle.mm_split.specs.Parts.{part_count}
use Rattle.mm_split.proofs.Bits.{least_or}
use Rattle.mm_split.proofs.command.count_parts.Goals as goal

pub emit_word-requires : goal.emit_word-requires
emit_word-requires c =
    let touched = c.requires.touched.is_net in
    (touched, touched, ((c.requires.from.more, c.requires.from.write), omega arith, omega arith), c.requires.touched.has_width)

pub returns-clause-value : goal.returns-clause-value
returns-clause-value c =
    if_ok c.emit_word.result _ (λ net. Always c.emit_word.new.builder (λ cycle. cycle.net net.number ≡ part_count (raw_in cycle c.args.from.now) (cycle.net c.args.touched.number)))
    (λ net value cycle v. value cycle v ∙ least_or (cycle.net c.args.touched.number) (not (is_raised (cycle.net c.args.from.now.more.number) && is_raised (cycle.net c.args.from.now.write.number))))
    c.emit_word.ensures.value
