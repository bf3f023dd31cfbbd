use Rattle.std.proofs.Common.{◌+◌, ◌-◌, ◌*◌, ◌/◌, ◌%◌, ◌^◌, ◌<◌, refl, sym, ap, subst, ◌∙◌, arith}
use Rattle.net_parts.specs.Laws.{alike_none, alike_once, alike_twice}
use Rattle.narrowed_netlists.proofs.GapLemmas.{narrowed_none, narrowed_from_low, narrowed_to_top, narrowed_middle}
use Rattle.narrowed_netlists.proofs.Copying.{fits_in}
use Rattle.narrowed_netlists.proofs.Making.{made_that, that_later}
use Rattle.narrowed_netlists.proofs.copies.narrowed.Goals as goal

pub returns-then-gap-eq0 : goal.returns-then-gap-eq0
returns-then-gap-eq0 c = record {
  net_is = record { is_net = c.requires.net_is; has_width = (let none = c.if-gap-eq0.true in omega (arith, none)) };
  is = λ cycle v. narrowed_none c.args.gap (cycle.net c.args.net.number) c.if-gap-eq0.true;
  grows = alike_none c.args.builder.now;
}

pub returns-then-gap-eq0-2 : goal.returns-then-gap-eq0-2
returns-then-gap-eq0-2 c =
    let wide = c.width-width.ensures.value in
    let none = c.if-gap-eq0-2.true in
    let some_bit = c.requires.fits.some_bit in
    made_that c.args.builder.now c.slice.new.self c.slice.result _ _ _ _ _ c.slice.ensures (omega (arith, wide, none, some_bit))
    (λ cycle v. narrowed_from_low c.args.gap (cycle.net c.args.net.number) c.width-width.result none (omega (arith, wide, none, some_bit))
    (subst (λ t. cycle.net c.args.net.number < 2 ^ t) (sym wide) (fits_in c.args.builder.now c.args.net c.args.net.width cycle (record { is_net = c.requires.net_is; has_width = refl }) (c.slice.ensures.extends.valuations cycle v))))

pub returns-then-above-width : goal.returns-then-above-width
returns-then-above-width c =
    let wide = c.width-width.ensures.value in
    let some = c.if-gap-eq0-2.false in
    let top = c.if-above-width.true in
    made_that c.args.builder.now c.slice-then-above-width.new.self c.slice-then-above-width.result _ _ _ _ _ c.slice-then-above-width.ensures (omega (arith, wide, some, top))
    (λ cycle v. narrowed_to_top c.args.gap (cycle.net c.args.net.number) c.width-width.result top (omega (arith, some))
    (subst (λ t. cycle.net c.args.net.number < 2 ^ t) (sym wide)
    (fits_in c.args.builder.now c.args.net c.args.net.width cycle (record { is_net = c.requires.net_is; has_width = refl }) (c.slice-then-above-width.ensures.extends.valuations cycle v))))

pub returns : goal.returns
returns c =
    let wide = c.width-width.ensures.value in
    let some = c.if-gap-eq0-2.false in
    let other = c.if-above-width.false in
    let inside = c.requires.fits.inside in
    let above = c.args.gap.low + c.args.gap.zeros in
    let w = c.width-width.result in
    let high_is = c.in_ok-high.ensures.net.1 in
    let low_is = c.in_ok-low.ensures.net.1 in
    that_later c.args.builder.now c.slice-3.new.self c.concat.new.self c.concat.result _ _
    (alike_twice c.args.builder.now c.slice-2.new.self c.slice-3.new.self (alike_once _ _ c.slice-2.ensures.extends c.slice-2.ensures.grows) (alike_once _ _ c.slice-3.ensures.extends c.slice-3.ensures.grows))
    (made_that c.slice-3.new.self c.concat.new.self c.concat.result _ _ _ _ _ c.concat.ensures (omega (arith, wide, some, other, inside, high_is, low_is))
    (λ cycle v3. (
    let v2 = c.concat.ensures.extends.valuations cycle v3 in
    let v1 = c.slice-3.ensures.extends.valuations cycle v2 in
    let v0 = c.slice-2.ensures.extends.valuations cycle v1 in
    let n = cycle.net c.args.net.number in
    let high = n / 2 ^ above % 2 ^ (w - 1 - above + 1) in
    let fits : n < 2 ^ w = subst (λ t. n < 2 ^ t) (sym wide) (fits_in c.args.builder.now c.args.net c.args.net.width cycle (record { is_net = c.requires.net_is; has_width = refl }) v0) in
    ap (λ t. t * 2 ^ c.in_ok-low.low.width + cycle.net c.in_ok-low.low.number) (c.in_ok-high.ensures.value cycle v1).1 ∙ ap (λ t. high * 2 ^ t + cycle.net c.in_ok-low.low.number) low_is
    ∙ ap (λ t. high * 2 ^ (c.args.gap.low - 1 - 0 + 1) + t) (c.in_ok-low.ensures.value cycle v2).1 ∙ narrowed_middle c.args.gap n w (omega (arith, some)) (omega (arith, other, inside, wide)) fits)))
