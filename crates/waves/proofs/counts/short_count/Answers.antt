use Rattle.std.proofs.Common.{◌<◌, ◌∙◌, arith}
use Rattle.waves.specs.DigitLaws.{within_twenty, decimal_is_digit, next_decimal}
use Rattle.waves.proofs.counts.short_count.Goals as goal

pub digit_value-requires : goal.digit_value-requires
digit_value-requires c = decimal_is_digit c.args.text.now c.digits.byte-index c.digits-test.true c.digits.invariant.1

pub overflow_mul-number : goal.overflow_mul-number
overflow_mul-number c =
    let short : c.digits.byte-index < 5 = omega arith in
    let all = within_twenty c.digits.number 0 c.digits.byte-index c.digits.invariant.2 (omega arith) short in
    omega arith

pub overflow_add-number : goal.overflow_add-number
overflow_add-number c =
    let short : c.digits.byte-index < 5 = omega arith in
    let all = within_twenty c.digits.number c.from.result c.digits.byte-index c.digits.invariant.2 (omega arith) short in
    omega arith

pub digits-preserved : goal.digits-preserved
digits-preserved c =
    next_decimal c.args.text.now c.digits.byte-index c.digits.number c.from.result c.digits-test.true c.digits.invariant.0 c.digits.invariant.1 c.digits.invariant.2
    (c.from.ensures ∙ c.digit_value.ensures.value) (omega arith)
