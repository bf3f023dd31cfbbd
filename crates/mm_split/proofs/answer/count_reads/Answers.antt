use Rattle.std.proofs.Common.{◌≡◌, ◌+◌, ◌-◌, ◌^◌, ◌<◌, ◌∙◌, refl, arith}
use Rattle.histories.specs.History.{is_raised, one_if}
use Rattle.netlist.specs.Runs.{Always}
use Rattle.net_parts.specs.Laws.{if_ok}
use Rattle.mm_split.proofs.Bits.{counted}
use Rattle.mm_split.proofs.Numbers.{power_least}
use Rattle.mm_split.proofs.answer.count_reads.Goals as goal

pub emit_word-requires : goal.emit_word-requires
emit_word-requires c =
    let wide = c.requires.few in
    let power = c.highest.ensures in
    let two = power_least c.args.bits c.requires.some in
    (((c.requires.comes, c.requires.goes), (c.requires.comes, c.requires.count.is_net)), (c.requires.count.is_net, (c.requires.comes, (c.requires.some, omega (arith, wide), omega (arith, two)), (c.requires.some, omega (arith, wide), omega (arith, power)), refl), c.requires.count.has_width), c.requires.count.is_net, refl)

pub returns-clause-value : goal.returns-clause-value
returns-clause-value c =
    if_ok c.emit_word.result _ (λ net. Always c.emit_word.new.builder (λ cycle. cycle.net c.args.count.number + one_if (is_raised (cycle.net c.args.comes.number)) < 2 ^ c.args.bits → cycle.net net.number ≡ (cycle.net c.args.count.number + one_if (is_raised (cycle.net c.args.comes.number))) - one_if (is_raised (cycle.net c.args.goes.number))))
    (λ net value cycle v few.
    value cycle v ∙ counted c.args.count.width c.args.bits (cycle.net c.args.count.number) c.highest.result (is_raised (cycle.net c.args.comes.number)) (is_raised (cycle.net c.args.goes.number)) c.requires.count.has_width few c.highest.ensures)
    c.emit_word.ensures.value
