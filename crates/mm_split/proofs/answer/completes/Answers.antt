use Rattle.std.proofs.Common.{◌≡◌, suc, nat_lt, ◌∙◌, sym, arith}
use Rattle.histories.specs.History.{is_raised}
use Rattle.netlist.specs.Runs.{Always}
use Rattle.net_parts.specs.Laws.{if_ok, width_fits}
use Rattle.mm_split.proofs.Bits.{past_last}
use Rattle.mm_split.proofs.answer.completes.Goals as goal

pub emit-requires : goal.emit-requires
emit-requires c = (c.requires.count.is_net, (c.requires.place.is_net, (c.requires.count.is_net, (omega arith, omega arith, omega arith), c.requires.count.has_width), c.requires.place.has_width ∙ sym c.requires.count.has_width))

pub returns-clause-value : goal.returns-clause-value
returns-clause-value c =
    if_ok c.emit.result _ (λ net. Always c.emit.new.builder (λ cycle. is_raised (cycle.net net.number) ≡ nat_lt (cycle.net c.args.count.number) (suc (suc (cycle.net c.args.place.number)))))
    (λ net value cycle v. (
    let start = c.emit.ensures.adds.grows.extends.valuations cycle v in
    value cycle v ∙ past_last c.args.count.width (cycle.net c.args.place.number) (cycle.net c.args.count.number) c.requires.count.has_width (width_fits _ _ 5 c.requires.count cycle start)))
    c.emit.ensures.value
