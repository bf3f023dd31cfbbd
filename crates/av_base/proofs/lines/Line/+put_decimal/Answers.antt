use Rattle.std.proofs.Common.{◌++◌, ◌/◌, length, append_assoc, length-append, List, ℕ, sym, ap, ◌∙◌, arith}
use Rattle.std.specs.Prelude.{decimal}
use Rattle.std.proofs.lemmas.Fmt.{decimal_digit, decimal_step}
use Rattle.av_base.proofs.lines.Decimals.{more_digits}
use Rattle.av_base.proofs.lines.Line.+put_decimal.Goals as goal

pub put_digit-requires-clause-room : goal.put_digit-requires-clause-room
put_digit-requires-clause-room t c =
    omega (arith, ap length (decimal_digit c.args.number c.if-number-lt10.true), c.requires)

pub returns-then-number-lt10 : goal.returns-then-number-lt10
returns-then-number-lt10 t c =
    c.put_digit.ensures ∙ ap (λ (ds : List ℕ). c.args.self.now ++ ds) (sym (decimal_digit c.args.number c.if-number-lt10.true))

pub put_decimal-requires : goal.put_decimal-requires
put_decimal-requires t c =
    let digits = more_digits c.args.number c.if-number-lt10.false c.ranges.number.fits in
    (omega (arith, c.decreases), omega (arith, digits, c.requires))

pub put_digit-requires-2-clause-room : goal.put_digit-requires-2-clause-room
put_digit-requires-2-clause-room t c =
    let digits = more_digits c.args.number c.if-number-lt10.false c.ranges.number.fits in
    let long = ap length c.put_decimal.ensures ∙ length-append c.args.self.now (decimal (c.args.number / 10)) in
    omega (arith, digits, long, c.requires)

pub returns : goal.returns
returns t c =
    let step = decimal_step c.args.number c.if-number-lt10.false c.ranges.number.fits in
    rw step (c.put_digit-2.ensures ∙ (rw c.put_decimal.ensures (append_assoc c.args.self.now (decimal (c.args.number / 10)) _)))
