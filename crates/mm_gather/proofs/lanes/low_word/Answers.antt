use Rattle.std.proofs.Common.{◌≡◌, ◌-◌, ◌*◌, ◌^◌}
use Rattle.netlist.specs.Runs.{Always}
use Rattle.net_parts.specs.Laws.{bit_fits, if_ok}
use Rattle.mm_gather.proofs.LaneLaws.{low_word_is}
use Rattle.mm_gather.proofs.lanes.low_word.Goals as goal

pub returns-clause-value : goal.returns-clause-value
returns-clause-value c =
    if_ok c.choose.result _ (λ made. Always c.choose.new.builder (λ cycle. cycle.net made.number ≡ 2 ^ (c.args.lanes * cycle.net c.args.bit.number) - 1))
    (λ made value cycle v. (
    let v1 = c.choose.ensures.adds.grows.extends.valuations cycle v in
    let v0 = c.ones.ensures.adds.grows.extends.valuations cycle v1 in
    let before = c.constant.ensures.adds.grows.extends.valuations cycle v0 in
    low_word_is c.args.lanes (cycle.net c.args.bit.number) _ _ _ (bit_fits _ _ c.requires.bit cycle before) (c.in_ok-zeros.ensures.value cycle v0) (c.in_ok-full.ensures.value cycle v1) (value cycle v)))
    c.choose.ensures.value
