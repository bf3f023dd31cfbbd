use Rattle.std.proofs.Common.{◌≡◌, ◌*◌, ◌%◌, ◌^◌, ◌∙◌, arith}
use Rattle.netlist.specs.Runs.{Always}
use Rattle.net_parts.specs.Laws.{net_fits, if_ok, adds_fewer, adds_twice, grows_once}
use Rattle.memory_links.specs.Gathers.{spread}
use Rattle.mm_gather.proofs.LaneLaws.{burst_is}
use Rattle.mm_gather.proofs.lanes.burst_lanes.Goals as goal

pub returns-clause-value : goal.returns-clause-value
returns-clause-value c =
    if_ok c.pushed_to.result _ (λ made. Always c.pushed_to.new.builder (λ cycle. cycle.net made.number ≡ (spread c.args.enables.width (cycle.net c.args.count.number) (cycle.net c.args.enables.number) * 2 ^ (c.args.enables.width * cycle.net c.args.place.number)) % 2 ^ (c.args.enables.width * 2 ^ c.args.places)))
    (λ made value cycle v. (
    let v3 = c.pushed_to.ensures.adds.grows.extends.valuations cycle v in
    let v2 = c.and.ensures.extends.valuations cycle v3 in
    let v1 = c.slice.ensures.extends.valuations cycle v2 in
    let v0 = c.low_words.ensures.adds.grows.extends.valuations cycle v1 in
    let before = c.repeat.ensures.adds.grows.extends.valuations cycle v0 in
    let wide = c.width-width.ensures.value in
    let all_width = c.in_ok-all.ensures.net.has_width in
    let low_width = c.in_ok-low.ensures.net.1 in
    burst_is c.args.enables.width (2 ^ c.args.places) (cycle.net c.args.count.number) (cycle.net c.args.enables.number) (cycle.net c.args.place.number) (cycle.net c.in_ok-all.all.number) (cycle.net c.in_ok-words.words.number) (cycle.net c.in_ok-few.few.number) (cycle.net c.in_ok-low.low.number)
    c.width-width.result c.in_ok-low.low.width c.width-lanes.result (cycle.net made.number) (net_fits _ _ c.requires.enables cycle before) c.width-width.ensures.bounds.0 (wide ∙ all_width) (low_width ∙ all_width) c.width-lanes.ensures.value
    (c.in_ok-all.ensures.spread cycle v0) (c.in_ok-words.ensures.value cycle v1) (c.in_ok-few.ensures.value cycle v2).1 (c.in_ok-low.ensures.value cycle v3).1 (value cycle v)))
    c.pushed_to.ensures.value

pub returns-clause-adds : goal.returns-clause-adds
returns-clause-adds c =
    adds_fewer _ _ _ _ (omega arith)
    (adds_twice _ _ _ _ _ (adds_twice _ _ _ _ _ (adds_twice _ _ _ _ _ (adds_twice _ _ _ _ _ c.repeat.ensures.adds c.low_words.ensures.adds) (grows_once _ _ c.slice.ensures.extends c.slice.ensures.grows)) (grows_once _ _ c.and.ensures.extends c.and.ensures.grows)) c.pushed_to.ensures.adds)
