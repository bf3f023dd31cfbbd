use Rattle.std.proofs.Common.{◌≡◌}
use Rattle.netlist.specs.Runs.{Always}
use Rattle.net_parts.specs.Laws.{if_ok}
use Rattle.mm_split.specs.Pieces.{has_lane, mask_of}
use Rattle.mm_split.proofs.Marks.{more_masked}
use Rattle.mm_split.proofs.lanes.+touched_mask.Goals as goal

pub returns-clause-value : goal.returns-clause-value
returns-clause-value t c =
    if_ok c.concat.result _ (λ net. Always c.concat.new.self (λ cycle. cycle.net net.number ≡ mask_of (has_lane c.args.bytes (cycle.net c.args.enables.number)) c.args.count))
    (λ net value cycle v. (
    let v1 = c.concat.ensures.extends.valuations cycle v in
    let v0 = c.touched_mask.ensures.adds.grows.extends.valuations cycle v1 in
    more_masked (has_lane c.args.bytes (cycle.net c.args.enables.number)) c.args.count c.in_ok-below.below.width (cycle.net c.in_ok-highest.highest.number) (cycle.net c.in_ok-below.below.number) (cycle.net net.number)
    c.requires.one c.in_ok-below.ensures.net.has_width (c.in_ok-highest.ensures.value cycle v0) (c.in_ok-below.ensures.value cycle v1) (value cycle v).1))
    c.concat.ensures.value
