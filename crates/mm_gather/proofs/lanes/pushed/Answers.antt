use Rattle.std.proofs.Common.{◌≡◌, ◌-◌, ◌*◌, ◌^◌, ◌%◌, ◌/◌, ◌+◌, ap, ◌∙◌}
use Rattle.netlist.specs.Runs.{Always}
use Rattle.net_parts.specs.Laws.{bit_fits, net_fits, if_ok}
use Rattle.mm_gather.proofs.LaneLaws.{pushed_is}
use Rattle.mm_gather.proofs.lanes.pushed.Goals as goal

pub returns-clause-value : goal.returns-clause-value
returns-clause-value c =
    if_ok c.choose.result _ (λ made. Always c.choose.new.builder (λ cycle. cycle.net made.number ≡ (cycle.net c.args.net.number * 2 ^ (c.args.by * cycle.net c.args.bit.number)) % 2 ^ c.args.net.width))
    (λ made value cycle v. (
    let v2 = c.choose.ensures.adds.grows.extends.valuations cycle v in
    let v1 = c.concat.ensures.extends.valuations cycle v2 in
    let v0 = c.constant.ensures.adds.grows.extends.valuations cycle v1 in
    let before = c.slice.ensures.extends.valuations cycle v0 in
    pushed_is (cycle.net c.args.net.number) c.args.net.width c.args.by _ _ c.in_ok-zeros.zeros.width _ _ (cycle.net c.args.bit.number) (bit_fits _ _ c.requires.bit cycle before) c.requires.less (net_fits _ c.args.net c.requires.net cycle before)
    ((c.in_ok-low.ensures.value cycle v0).1 ∙ ap (λ n. cycle.net c.args.net.number / 2 ^ 0 % 2 ^ (n - c.args.by - 1 - 0 + 1)) c.width-width.ensures.value) (c.in_ok-zeros.ensures.value cycle v1) c.in_ok-zeros.ensures.net.has_width (c.in_ok-moved.ensures.value cycle v2).1 (value cycle v)))
    c.choose.ensures.value
