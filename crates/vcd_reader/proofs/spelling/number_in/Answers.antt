use Rattle.std.proofs.Common.{sym, ◌∙◌, arith}
use Rattle.vcd_reader.proofs.Numbers.{number_led_badly, number_long, number_fits}
use Rattle.vcd_reader.proofs.spelling.number_in.Goals as goal

pub returns-then-not-is_led_well : goal.returns-then-not-is_led_well
returns-then-not-is_led_well c = sym (number_led_badly c.args.above c.args.most c.args.run.now (sym c.is_led_well.ensures ∙ c.if-not-is_led_well.true) c.requires.few)

pub returns-then-run-gt5 : goal.returns-then-run-gt5
returns-then-run-gt5 c = sym (number_long c.args.above c.args.most c.args.run.now (omega arith) c.requires.few)

pub returns-then-number-most : goal.returns-then-number-most
returns-then-number-most c =
    sym (number_fits c.args.above c.args.most c.decimal_number-number.result c.args.run.now c.requires.digits (sym c.is_led_well.ensures ∙ c.if-not-is_led_well.false) c.decimal_number-number.ensures (omega arith) (omega arith) c.requires.few)
