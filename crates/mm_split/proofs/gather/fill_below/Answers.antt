use Rattle.std.proofs.Common.{◌≡◌, ◌-◌, if◌then◌else◌}
use Rattle.netlist.specs.Runs.{Always}
use Rattle.net_parts.specs.Laws.{if_ok}
use Rattle.mm_split.specs.Parts.{stands_whole}
use Rattle.mm_split.proofs.Bits.{whole_chosen}
use Rattle.mm_split.proofs.gather.fill_below.Goals as goal

pub returns-clause-value : goal.returns-clause-value
returns-clause-value c =
    if_ok c.choose.result _ (λ net. Always c.choose.new.builder (λ cycle. cycle.net net.number ≡ (if stands_whole c.args.sizes.now (cycle.net c.args.set.number) then cycle.net c.args.kept.number else cycle.net c.args.low.number)))
    (λ net value cycle v.
    whole_chosen c.args.sizes.now.all_lanes (cycle.net c.args.set.number) (c.args.sizes.now.pieces - 1) (cycle.net c.in_ok-last.last.number) (cycle.net c.args.kept.number) (cycle.net c.args.low.number) (cycle.net net.number)
    c.if-not-sizes.false (c.in_ok-last.ensures.value cycle (c.choose.ensures.adds.grows.extends.valuations cycle v)) (value cycle v))
    c.choose.ensures.value
