use Rattle.std.proofs.Common.{ℕ, List, true, sym, ap, ◌∙◌}
use Rattle.std.proofs.lemmas.Result.{err_from_is_err_and}
use Rattle.vcd_reader.specs.Readings.{judged_value}
use Rattle.vcd_reader.proofs.ValueSteps.{value_line_judged, value_line_broken}
use Rattle.vcd_reader.proofs.values.first_value.Goals as goal

pub returns-in_err-port : goal.returns-in_err-port
returns-in_err-port c = λ width lets_in suits. (
    let p = err_from_is_err_and c.from_residual.result c.from_residual.ensures.1 in rw (p.1, p.2) (value_line_broken width lets_in (λ _ _. true) c.args.reader.now c.spelled_line.new.reader c.in_err-port.field-0.0 (c.in_err-port.ensures.read width lets_in suits)))

pub returns : goal.returns
returns c = λ width lets_in suits. (
    value_line_judged width lets_in (λ _ _. true) c.args.reader.now c.in_ok-port.port c.in_ok-port.value c.spelled_line.new.reader (c.in_ok-port.ensures.read width lets_in suits)
    ∙ ap (λ (text : List ℕ). judged_value (λ _ _. true) text c.in_ok-port.port c.spelled_line.new.reader c.in_ok-port.value) (sym c.rest-text.ensures) ∙ c.judged.ensures)
