use Rattle.std.proofs.Common.{◌≡◌, ◌*◌, ◌^◌, refl, arith}
use Rattle.netlist.specs.Runs.{Always}
use Rattle.net_parts.specs.Laws.{bit_fits, if_ok, adds_twice, grows_once}
use Rattle.mm_select.proofs.PlaceLaws.{raised_once}
use Rattle.mm_select.proofs.places.raise_once.Goals as goal

pub returns-clause-value : goal.returns-clause-value
returns-clause-value c =
    if_ok c.choose.result _ (λ made. Always c.choose.new.builder (λ cycle. cycle.net made.number ≡ cycle.net c.args.net.number * 2 ^ (c.args.net.width * cycle.net c.args.bit.number)))
    (λ made value cycle v4. (
    let v3 = c.choose.ensures.adds.grows.extends.valuations cycle v4 in
    let v2 = c.concat-2.ensures.extends.valuations cycle v3 in
    let v1 = c.concat.ensures.extends.valuations cycle v2 in
    let v0 = c.constant.ensures.adds.grows.extends.valuations cycle v1 in
    let wide = c.width-width.ensures.value in
    let zeros_width = c.in_ok-zeros.ensures.net.has_width in
    let raised =
    raised_once (cycle.net c.args.net.number) c.args.net.width c.in_ok-zeros.zeros.width (cycle.net c.in_ok-zeros.zeros.number) _ _ _ (cycle.net c.args.bit.number)
    (bit_fits _ _ c.requires.bit cycle v0) (c.in_ok-zeros.ensures.value cycle v1) (omega (arith, zeros_width, wide)) refl refl refl in
    let high = (c.in_ok-high.ensures.value cycle v2).1 in
    let low = (c.in_ok-low.ensures.value cycle v3).1 in
    let fact = value cycle v4 in cc))
    c.choose.ensures.value

pub returns-clause-adds : goal.returns-clause-adds
returns-clause-adds c =
    adds_twice _ _ _ _ _ (adds_twice _ _ _ _ _ (adds_twice _ _ _ _ _ c.constant.ensures.adds (grows_once _ _ c.concat.ensures.extends c.concat.ensures.grows)) (grows_once _ _ c.concat-2.ensures.extends c.concat-2.ensures.grows)) c.choose.ensures.adds
