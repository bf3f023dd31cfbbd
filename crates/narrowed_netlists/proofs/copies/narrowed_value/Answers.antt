use Rattle.std.proofs.Common.{◌+◌, ◌-◌, ◌*◌, ◌/◌, ◌%◌, ◌^◌, ◌<◌, sym, ap, subst, ◌∙◌, arith}
use Rattle.av_base.specs.Word.{Word}
use Rattle.narrowed_netlists.proofs.GapLemmas.{narrowed_none, narrowed_from_low, narrowed_to_top, narrowed_middle}
use Rattle.narrowed_netlists.proofs.copies.narrowed_value.Goals as goal

pub returns-then-gap-eq0-clause-bits : goal.returns-then-gap-eq0-clause-bits
returns-then-gap-eq0-clause-bits c = narrowed_none c.args.gap c.args.value.bits c.if-gap-eq0.true

pub returns-then-gap-eq0-2-clause-bits : goal.returns-then-gap-eq0-2-clause-bits
returns-then-gap-eq0-2-clause-bits c =
    let w = c.width-width.result in
    let wide = c.width-width.ensures.value in
    let fits : c.args.value.bits < 2 ^ w = subst (λ t. c.args.value.bits < 2 ^ t) (sym wide) c.width-width.ensures.word.fits in
    let none = c.if-gap-eq0-2.true in
    let some_bit = c.requires.some_bit in
    ap (λ (v : Word). v.bits) c.slice.ensures ∙ narrowed_from_low c.args.gap c.args.value.bits w none (omega (arith, none, some_bit, wide)) fits

pub returns-then-above-width-clause-bits : goal.returns-then-above-width-clause-bits
returns-then-above-width-clause-bits c =
    let w = c.width-width.result in
    let fits : c.args.value.bits < 2 ^ w = subst (λ t. c.args.value.bits < 2 ^ t) (sym c.width-width.ensures.value) c.width-width.ensures.word.fits in
    let some = c.if-gap-eq0-2.false in
    ap (λ (v : Word). v.bits) c.slice-then-above-width.ensures ∙ narrowed_to_top c.args.gap c.args.value.bits w c.if-above-width.true (omega (arith, some)) fits

pub returns-clause-bits : goal.returns-clause-bits
returns-clause-bits c =
    let w = c.width-width.result in
    let wide = c.width-width.ensures.value in
    let fits : c.args.value.bits < 2 ^ w = subst (λ t. c.args.value.bits < 2 ^ t) (sym wide) c.width-width.ensures.word.fits in
    let some = c.if-gap-eq0-2.false in
    let other = c.if-above-width.false in
    let inside = c.requires.inside in
    let above = c.args.gap.low + c.args.gap.zeros in
    let high = c.args.value.bits / 2 ^ above % 2 ^ (w - 1 - above + 1) in
    ap (λ (v : Word). v.bits) c.concat.ensures ∙ ap (λ (v : Word). v.bits * 2 ^ c.slice-low.result.width + c.slice-low.result.bits) c.slice-high.ensures
    ∙ ap (λ (v : Word). high * 2 ^ v.width + v.bits) c.slice-low.ensures ∙ narrowed_middle c.args.gap c.args.value.bits w (omega (arith, some)) (omega (arith, other, inside, wide)) fits
