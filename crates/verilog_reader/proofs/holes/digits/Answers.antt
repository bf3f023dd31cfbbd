use Rattle.std.proofs.Common.{ℕ, ◌<◌, ◌+◌, ◌*◌, length, sym, ap, ◌∙◌, arith}
use Rattle.verilog_reader.specs.Holes.{capped}
use Rattle.std.specs.Char.{is_digit}
use Rattle.verilog_reader.proofs.Numbers.{digits_on, all_on}
use Rattle.verilog_reader.proofs.holes.digits.Goals as goal

pub digits-preserved : goal.digits-preserved
digits-preserved c =
    let run = c.args.run.now in
    let i = c.digits.byte-index in
    let inside : i < length run = omega arith in
    let digit = sym c.is_digit.ensures ∙ c.if-not-is_digit.false in
    record {
      value = c.capped-value.ensures.capped ∙ ap (λ (d : ℕ). capped (c.digits.value * 10 + d)) c.from.ensures ∙ digits_on run i c.digits.value inside c.digits.invariant.value digit;
      goes_on = all_on (λ b. is_digit b 10) run i inside digit ∙ c.digits.invariant.goes_on;
    }
