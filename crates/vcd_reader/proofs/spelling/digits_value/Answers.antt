use Rattle.std.proofs.Common.{Some, None, ◌^◌, sym, ap, ◌∙◌, arith}
use Rattle.std.specs.Prelude.{ℕ, nat_lt, if◌then◌else◌}
use Rattle.std.specs.List.{list_all}
use Rattle.std.proofs.lemmas.Bool.{false≢true}
use Rattle.av_base.specs.Word.{word}
use Rattle.vcd_reader.specs.Spellings.{is_bit, number_behind}
use Rattle.vcd_reader.proofs.Numbers.{digits_tell, digits_tell_none, not_zero, told_bits, no_bits, new_is}
use Rattle.vcd_reader.proofs.spelling.digits_value.Goals as goal

pub returns-then-not-is_led_well : goal.returns-then-not-is_led_well
returns-then-not-is_led_well c =
    let run = c.args.run.now in
    let other = not_zero run c.as_slice.result.now c.eq.result c.eq.ensures c.as_slice.ensures c.if-eq.false in
    sym (digits_tell_none c.args.width run other (λ lead bits short. false≢true (sym c.if-not-is_led_well.true ∙ c.is_led_well.ensures ∙ lead)))

pub returns-then-run-from : goal.returns-then-run-from
returns-then-run-from c =
    let run = c.args.run.now in
    let other = not_zero run c.as_slice.result.now c.eq.result c.eq.ensures c.as_slice.ensures c.if-eq.false in
    sym (digits_tell_none c.args.width run other (λ lead bits short. (omega arith)))

pub returns-in-Some : goal.returns-in-Some
returns-in-Some c =
    let run = c.args.run.now in
    let width = c.args.width in
    let are = told_bits (list_all is_bit run) (number_behind 2 0 run) c.in-Some.number (c.in-Some.ensures {u = tt}) in
    let some = c.new-in-Some.ensures.some in
    new_is c.new-in-Some.result width c.in-Some.number some.0 some.1 c.new-in-Some.ensures.value (omega arith) (omega arith)
    ∙ ap (λ (n : ℕ). if nat_lt n (2 ^ width) then Some (word width n) else None) are.number
    ∙ sym (digits_tell width run (omega arith) (sym c.is_led_well.ensures ∙ c.if-not-is_led_well.false) are.bits (omega arith))

pub returns-in-None : goal.returns-in-None
returns-in-None c =
    let run = c.args.run.now in
    let other = not_zero run c.as_slice.result.now c.eq.result c.eq.ensures c.as_slice.ensures c.if-eq.false in
    sym (digits_tell_none c.args.width run other (λ lead bits short. no_bits (list_all is_bit run) (number_behind 2 0 run) (c.in-None.ensures {u = tt}) bits))
