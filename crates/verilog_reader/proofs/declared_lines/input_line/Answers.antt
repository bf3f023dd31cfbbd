use Rattle.std.proofs.Common.{true, false, sym, ◌∙◌}
use Rattle.netlist.specs.declared.line.Equation.TheVariants.{Input}
use Rattle.netlist.specs.Netlists.{line_of}
use Rattle.verilog_reader.proofs.DeclaredSteps.{input_found}
use Rattle.verilog_reader.proofs.declared_lines.input_line.Goals as goal

pub returns-then-next_is-clause-read : goal.returns-then-next_is-clause-read
returns-then-next_is-clause-read c =
    let port = c.args.port.now in
    input_found c.args.bytes.now c.args.net c.args.number port c.args.spot c.fixed-begun.result c.no_input.result true c.fixed-begun.ensures.fixed
    (sym c.if-next_is.true ∙ c.next_is.ensures) (c.no_input.ensures.read (line_of port.width (Input c.args.number)))

pub returns-else-next_is-clause-read : goal.returns-else-next_is-clause-read
returns-else-next_is-clause-read c =
    input_found c.args.bytes.now c.args.net c.args.number c.args.port.now c.args.spot c.fixed-begun.result c.input_wire.result false c.fixed-begun.ensures.fixed
    (sym c.if-next_is.false ∙ c.next_is.ensures) (c.input_wire.ensures.read c.args.number)
