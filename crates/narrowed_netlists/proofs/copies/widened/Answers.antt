use Rattle.std.proofs.Common.{◌+◌, ◌-◌, ◌*◌, ◌/◌, ◌%◌, ◌^◌, ◌<◌, refl, sym, ap, subst, ◌∙◌, arith}
use Rattle.net_parts.specs.Laws.{alike_none, alike_once, alike_twice}
use Rattle.narrowed_netlists.proofs.GapLemmas.{widened_none, widened_from_low, widened_to_top, widened_middle}
use Rattle.narrowed_netlists.proofs.Copying.{fits_in}
use Rattle.narrowed_netlists.proofs.Making.{made_that, that_later}
use Rattle.narrowed_netlists.proofs.copies.widened.Goals as goal

pub returns-then-gap-eq0 : goal.returns-then-gap-eq0
returns-then-gap-eq0 c = record {
  net_is = record { is_net = c.requires.core_is; has_width = (let none = c.if-gap-eq0.true in omega (arith, none)) };
  is = λ cycle v. widened_none c.args.gap (cycle.net c.args.core.number) c.if-gap-eq0.true;
  grows = alike_none c.args.builder.now;
}

pub returns-then-gap-eq0-2 : goal.returns-then-gap-eq0-2
returns-then-gap-eq0-2 c =
    let none = c.if-gap-eq0-2.true in
    let zero_is = c.in_ok-zero.ensures.net.has_width in
    that_later c.args.builder.now c.constant.new.builder c.concat.new.self c.concat.result _ _ c.constant.ensures.adds.grows
    (made_that c.constant.new.builder c.concat.new.self c.concat.result _ _ _ _ _ c.concat.ensures (omega (arith, zero_is))
    (λ cycle v. (
    let v1 = c.concat.ensures.extends.valuations cycle v in
    let n = cycle.net c.args.core.number in
    ap (λ t. n * 2 ^ t + cycle.net c.in_ok-zero.zero.number) zero_is ∙ widened_from_low c.args.gap n (cycle.net c.in_ok-zero.zero.number) none (c.in_ok-zero.ensures.value cycle v1))))

pub returns-then-gap-width : goal.returns-then-gap-width
returns-then-gap-width c =
    let wide = c.width-width.ensures.value in
    let top = c.if-gap-width.true in
    let zero_is = c.in_ok-zero.ensures.net.has_width in
    that_later c.args.builder.now c.constant.new.builder c.concat-then-gap-width.new.self c.concat-then-gap-width.result _ _ c.constant.ensures.adds.grows
    (made_that c.constant.new.builder c.concat-then-gap-width.new.self c.concat-then-gap-width.result _ _ _ _ _ c.concat-then-gap-width.ensures (omega (arith, zero_is))
    (λ cycle v. (
    let v1 = c.concat-then-gap-width.ensures.extends.valuations cycle v in
    let v0 = c.constant.ensures.adds.grows.extends.valuations cycle v1 in
    let n = cycle.net c.args.core.number in
    widened_to_top c.args.gap n (cycle.net c.in_ok-zero.zero.number) c.args.core.width (top ∙ wide) (fits_in c.args.builder.now c.args.core c.args.core.width cycle (record { is_net = c.requires.core_is; has_width = refl }) v0)
    (c.in_ok-zero.ensures.value cycle v1))))

pub returns : goal.returns
returns c =
    let wide = c.width-width.ensures.value in
    let some = c.if-gap-eq0-2.false in
    let other = c.if-gap-width.false in
    let inside = c.requires.inside in
    let w = c.width-width.result in
    let z = c.args.gap.zeros in
    let l = c.args.gap.low in
    let zero_is = c.in_ok-zero.ensures.net.has_width in
    let high_is = c.in_ok-high.ensures.net.1 in
    let low_is = c.in_ok-low.ensures.net.1 in
    let above_is = c.in_ok-above.ensures.net.1 in
    that_later c.args.builder.now c.concat-2.new.self c.concat-3.new.self c.concat-3.result _ _
    (alike_twice c.args.builder.now c.slice-2.new.self c.concat-2.new.self
    (alike_twice c.args.builder.now c.slice.new.self c.slice-2.new.self
    (alike_twice c.args.builder.now c.constant.new.builder c.slice.new.self c.constant.ensures.adds.grows (alike_once _ _ c.slice.ensures.extends c.slice.ensures.grows))
    (alike_once _ _ c.slice-2.ensures.extends c.slice-2.ensures.grows)) (alike_once _ _ c.concat-2.ensures.extends c.concat-2.ensures.grows))
    (made_that c.concat-2.new.self c.concat-3.new.self c.concat-3.result _ _ _ _ _ c.concat-3.ensures (omega (arith, wide, some, other, inside, zero_is, high_is, low_is, above_is))
    (λ cycle v5. (
    let v4 = c.concat-3.ensures.extends.valuations cycle v5 in
    let v3 = c.concat-2.ensures.extends.valuations cycle v4 in
    let v2 = c.slice-2.ensures.extends.valuations cycle v3 in
    let v1 = c.slice.ensures.extends.valuations cycle v2 in
    let v0 = c.constant.ensures.adds.grows.extends.valuations cycle v1 in
    let n = cycle.net c.args.core.number in
    let zero_net = cycle.net c.in_ok-zero.zero.number in
    let low_net = cycle.net c.in_ok-low.low.number in
    let high = n / 2 ^ l % 2 ^ (w - 1 - l + 1) in
    let fits : n < 2 ^ w = subst (λ t. n < 2 ^ t) (sym wide) (fits_in c.args.builder.now c.args.core c.args.core.width cycle (record { is_net = c.requires.core_is; has_width = refl }) v0) in
    ap (λ t. t * 2 ^ c.in_ok-low.low.width + low_net) ((c.in_ok-above.ensures.value cycle v4).1 ∙ ap (λ t. t * 2 ^ c.in_ok-zero.zero.width + zero_net) (c.in_ok-high.ensures.value cycle v2).1 ∙ ap (λ t. high * 2 ^ t + zero_net) zero_is)
    ∙ ap (λ t. (high * 2 ^ z + zero_net) * 2 ^ t + low_net) low_is ∙ ap (λ t. (high * 2 ^ z + zero_net) * 2 ^ (l - 1 - 0 + 1) + t) (c.in_ok-low.ensures.value cycle v3).1
    ∙ widened_middle c.args.gap n zero_net w (omega (arith, some)) (omega (arith, other, inside, wide)) fits (c.in_ok-zero.ensures.value cycle v1))))
