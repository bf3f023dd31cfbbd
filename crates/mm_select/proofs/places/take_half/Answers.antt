use Rattle.std.proofs.Common.{◌≡◌, ◌*◌, ◌/◌, ◌%◌, ◌^◌}
use Rattle.netlist.specs.Runs.{Always}
use Rattle.net_parts.specs.Laws.{bit_fits, if_ok}
use Rattle.mm_select.proofs.PlaceLaws.{halved}
use Rattle.mm_select.proofs.places.take_half.Goals as goal

pub returns-clause-value : goal.returns-clause-value
returns-clause-value c =
    if_ok c.choose.result _ (λ made. Always c.choose.new.builder (λ cycle. cycle.net made.number ≡ cycle.net c.args.net.number / 2 ^ (c.args.half * cycle.net c.args.bit.number) % 2 ^ c.args.half))
    (λ made value cycle v3. (
    let v2 = c.choose.ensures.adds.grows.extends.valuations cycle v3 in
    let v1 = c.slice-2.ensures.extends.valuations cycle v2 in
    let v0 = c.slice.ensures.extends.valuations cycle v1 in
    halved (cycle.net c.args.net.number) c.args.half _ _ _ (cycle.net c.args.bit.number) c.requires.some (bit_fits _ _ c.requires.bit cycle v0) (c.in_ok-high.ensures.value cycle v1).1 (c.in_ok-low.ensures.value cycle v2).1 (value cycle v3)))
    c.choose.ensures.value
