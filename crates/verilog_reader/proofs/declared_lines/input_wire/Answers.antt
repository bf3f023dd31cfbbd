use Rattle.verilog_forms.specs.InputLines.{port_test}
use Rattle.verilog_reader.specs.DeclaredLines.{nothing_told}
use Rattle.verilog_reader.proofs.DeclaredSteps.{input_wire_found}
use Rattle.verilog_reader.proofs.declared_lines.input_wire.Goals as goal

pub returns-clause-read : goal.returns-clause-read
returns-clause-read c = λ k.
    let w = c.range-width.result.0 in
    let port = c.args.port.now in
    input_wire_found c.args.bytes.now c.args.net k w port c.args.spot c.fixed-begun.result c.range-width.result.1 c.fixed-blank.result c.named-behind.result
    c.fixed-right.result c.take-source.result.1 c.fixed.result
    c.fixed-begun.ensures.fixed c.range-width.ensures.read c.fixed-blank.ensures.fixed c.named-behind.ensures.read c.fixed-right.ensures.fixed
    (c.take-source.ensures.taken (port_test port w) nothing_told c.port_in.ensures).leads c.fixed.ensures.fixed
