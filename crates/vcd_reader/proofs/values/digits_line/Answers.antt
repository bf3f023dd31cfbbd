use Rattle.std.proofs.Common.{true, get_or, ◌∙◌, arith}
use Rattle.std.proofs.lemmas.Result.{err_from_is_err_and}
use Rattle.vcd_reader.specs.Found.{Found}
use Rattle.vcd_reader.specs.Spellings.{Spelled}
use Rattle.vcd_reader.specs.Readings.{spelled_behind}
use Rattle.vcd_reader.proofs.ValueSteps.{valued_told, valued_broken, digits_go_on, digits_break, width_of, spelled_found}
use Rattle.vcd_reader.proofs.values.digits_line.Goals as goal

pub returns-in_err-fixed-clause-read : goal.returns-in_err-fixed-clause-read
returns-in_err-fixed-clause-read c = λ width lets_in suits. (
    let p = err_from_is_err_and c.from_residual.result c.from_residual.ensures.1 in rw (p.1, p.2) (valued_broken width (spelled_behind lets_in 98 true c.args.reader.now) c.fixed.new.self c.in_err-fixed.field-0.0
    (digits_break lets_in c.args.reader.now c.run-digits.new.self c.fixed.new.self c.run-digits.result.now c.in_err-fixed.field-0.0 c.run-digits.ensures.run c.run-digits.ensures.rest c.in_err-fixed.ensures)))

pub returns-in_err-port-clause-read : goal.returns-in_err-port-clause-read
returns-in_err-port-clause-read c = λ width lets_in suits. (
    let p = err_from_is_err_and c.from_residual-in_err-port.result c.from_residual-in_err-port.ensures.1 in rw (p.1, p.2) (valued_broken width (spelled_behind lets_in 98 true c.args.reader.now) c.coded.new.reader c.in_err-port.field-0.0
    (digits_go_on lets_in c.args.reader.now c.run-digits.new.self c.fixed.new.self c.run-digits.result.now (Found.broken c.coded.new.reader c.in_err-port.field-0.0) c.run-digits.ensures.run c.run-digits.ensures.rest c.in_ok-fixed.ensures
    (c.in_err-port.ensures.read lets_in (Spelled.digits c.run-digits.result.now) suits.lets))))

pub returns-clause-read : goal.returns-clause-read
returns-clause-read c = λ width lets_in suits. (
    let ports = c.args.ports.now in
    let k = c.in_ok-port.port in
    let port = c.index-ports-port.result in
    let within = c.in_ok-port.ensures.within in
    valued_told width (spelled_behind lets_in 98 true c.args.reader.now) k (get_or ports k port).width (Spelled.digits c.run-digits.result.now) c.digits_value.result c.coded.new.reader
    (digits_go_on lets_in c.args.reader.now c.run-digits.new.self c.fixed.new.self c.run-digits.result.now (spelled_found k (Spelled.digits c.run-digits.result.now) c.coded.new.reader) c.run-digits.ensures.run c.run-digits.ensures.rest c.in_ok-fixed.ensures
    (c.in_ok-port.ensures.read lets_in (Spelled.digits c.run-digits.result.now) suits.lets))
    (suits.same k within.0 within.1 ∙ width_of ports k port (omega arith)) c.digits_value.ensures)
