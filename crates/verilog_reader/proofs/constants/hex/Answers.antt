use Rattle.std.proofs.Common.{◌≡◌, ◌<◌, get_or, sym, ap, ◌∙◌, arith}
use Rattle.std.specs.Char.{digit_value}
use Rattle.std.proofs.lemmas.Str.{digit_value-digit_char}
use Rattle.verilog_writer.specs.Text.{hex_digit}
use Rattle.verilog_reader.proofs.Hexes.{hexes_on, no_hexes, hex_room}
use Rattle.verilog_reader.proofs.constants.hex.Goals as goal

pub returns-in-None : goal.returns-in-None
returns-in-None c n = no_hexes c.args.run.now c.digits.byte-index n (omega arith) c.in-None.ensures

pub overflow_mul-value : goal.overflow_mul-value
overflow_mul-value c =
    let room = hex_room c.digits.byte-index c.digits.value 0 (omega arith) c.digits.invariant.small (omega arith) in omega (arith, room.0)

pub overflow_add-value : goal.overflow_add-value
overflow_add-value c =
    let digit : c.from.result < 16 = omega (arith, c.from.ensures, c.in-Some.ensures.0) in
    let room = hex_room c.digits.byte-index c.digits.value c.from.result (omega arith) c.digits.invariant.small digit in omega (arith, room.0)

pub digits-preserved : goal.digits-preserved
digits-preserved c =
    let run = c.args.run.now in
    let i = c.digits.byte-index in
    let v = c.digits.value in
    let d = c.from.result in
    let digit : d < 16 = omega (arith, c.from.ensures, c.in-Some.ensures.0) in
    let is : hex_digit d ≡ get_or run i 0 = ap hex_digit c.from.ensures ∙ c.in-Some.ensures.1 in
    let told : digit_value (get_or run i 0) ≡ d = ap digit_value (sym is) ∙ digit_value-digit_char d (omega (arith, digit)) in
    let on = hexes_on run i v d (omega arith) c.digits.invariant.value c.digits.invariant.spelled digit is told in
    record { value = on.0; spelled = on.1; small = (hex_room i v d (omega arith) c.digits.invariant.small digit).1 }
