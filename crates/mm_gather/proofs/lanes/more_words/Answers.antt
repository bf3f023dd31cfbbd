use Rattle.std.proofs.Common.{◌≡◌, ◌+◌, ◌-◌, ◌*◌, ◌^◌, sym, ap, ◌∙◌, arith}
use Rattle.netlist.specs.Runs.{Always}
use Rattle.net_parts.specs.Laws.{bit_fits, if_ok, adds_twice, grows_once}
use Rattle.mm_gather.proofs.LaneLaws.{more_words_are}
use Rattle.mm_gather.proofs.lanes.more_words.Goals as goal

pub returns-clause-value : goal.returns-clause-value
returns-clause-value c =
    if_ok c.choose.result _ (λ made. Always c.choose.new.builder (λ cycle. cycle.net made.number ≡ (cycle.net c.args.low.number + 1) * 2 ^ ((c.args.low.width + c.args.lanes) * cycle.net c.args.top.number) - 1))
    (λ made value cycle v. (
    let v3 = c.choose.ensures.adds.grows.extends.valuations cycle v in
    let v2 = c.concat-2.ensures.extends.valuations cycle v3 in
    let v1 = c.constant.ensures.adds.grows.extends.valuations cycle v2 in
    let v0 = c.concat.ensures.extends.valuations cycle v1 in
    let before = c.ones.ensures.adds.grows.extends.valuations cycle v0 in
    let wide = c.width.ensures.value in
    let full_width = c.in_ok-full.ensures.net.has_width in
    let same : c.in_ok-full.full.width ≡ c.args.low.width + c.args.lanes = omega (arith, wide, full_width) in
    more_words_are (cycle.net c.args.low.number) (c.args.low.width + c.args.lanes) c.args.low.width c.in_ok-full.full.width (cycle.net c.args.top.number) _ _ _ _ _ (bit_fits _ _ c.requires.top cycle before)
    same (c.in_ok-full.ensures.value cycle v0 ∙ ap (λ n. 2 ^ n - 1) (sym full_width)) (c.in_ok-none.ensures.value cycle v2) (c.in_ok-many.ensures.value cycle v1).1 (c.in_ok-few.ensures.value cycle v3).1 (value cycle v)))
    c.choose.ensures.value

pub returns-clause-adds : goal.returns-clause-adds
returns-clause-adds c =
    adds_twice _ _ _ _ _ (adds_twice _ _ _ _ _ (adds_twice _ _ _ _ _ (adds_twice _ _ _ _ _ c.ones.ensures.adds (grows_once _ _ c.concat.ensures.extends c.concat.ensures.grows)) c.constant.ensures.adds) (grows_once _ _ c.concat-2.ensures.extends c.concat-2.ensures.grows)) c.choose.ensures.adds
