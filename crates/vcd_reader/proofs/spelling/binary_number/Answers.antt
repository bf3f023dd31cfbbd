use Rattle.std.proofs.Common.{arith}
use Rattle.vcd_reader.proofs.Runs.{two_more, small_two}
use Rattle.vcd_reader.proofs.spelling.binary_number.Goals as goal

pub overflow_mul-number : goal.overflow_mul-number
overflow_mul-number c =
    let i = c.digits.digit-index in
    omega (arith, two_more i, small_two i (omega arith), c.digits.invariant.small)

pub overflow_add-number : goal.overflow_add-number
overflow_add-number c =
    let i = c.digits.digit-index in
    grind (arith, two_more i, small_two i (omega arith), c.digits.invariant.small)
