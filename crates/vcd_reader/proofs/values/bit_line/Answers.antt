use Rattle.std.proofs.Common.{get_or, ◌∙◌, arith}
use Rattle.std.proofs.lemmas.Result.{err_from_is_err_and}
use Rattle.vcd_reader.specs.Spellings.{Spelled}
use Rattle.vcd_reader.specs.Readings.{coded}
use Rattle.vcd_reader.proofs.ValueSteps.{valued_told, valued_broken, width_of}
use Rattle.vcd_reader.proofs.values.bit_line.Goals as goal

pub returns-in_err-port-clause-read : goal.returns-in_err-port-clause-read
returns-in_err-port-clause-read c = λ width lets_in suits. (
    let p = err_from_is_err_and c.from_residual.result c.from_residual.ensures.1 in rw (p.1, p.2) (valued_broken width (coded lets_in (Spelled.bit c.args.byte) c.args.reader.now) c.coded.new.reader c.in_err-port.field-0.0
    (c.in_err-port.ensures.read lets_in (Spelled.bit c.args.byte) suits.lets)))

pub returns-clause-read : goal.returns-clause-read
returns-clause-read c = λ width lets_in suits. (
    let ports = c.args.ports.now in
    let k = c.in_ok-port.port in
    let port = c.index-ports-port.result in
    let within = c.in_ok-port.ensures.within in
    valued_told width (coded lets_in (Spelled.bit c.args.byte) c.args.reader.now) k (get_or ports k port).width (Spelled.bit c.args.byte) c.bit_value.result c.coded.new.reader
    (c.in_ok-port.ensures.read lets_in (Spelled.bit c.args.byte) suits.lets)
    (suits.same k within.0 within.1 ∙ width_of ports k port (omega arith)) c.bit_value.ensures)
