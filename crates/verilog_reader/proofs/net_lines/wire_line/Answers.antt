use Rattle.std.proofs.Common.{length}
use Rattle.verilog_reader.proofs.NetSteps.{wire_found}
use Rattle.verilog_reader.proofs.net_lines.wire_line.Goals as goal

pub returns-clause-read : goal.returns-clause-read
returns-clause-read c =
    let lines = c.args.lines.now in
    wire_found c.args.memories.now lines (length lines) c.range-width.result.0 c.right_side-equation.result.0 c.args.bytes.now c.args.spot c.fixed-begun.result c.range-width.result.1 c.fixed-blank.result c.named-behind.result c.fixed-equals.result
    c.right_side-equation.result.1 c.fixed.result c.fixed-begun.ensures.fixed c.range-width.ensures.read c.fixed-blank.ensures.fixed c.named-behind.ensures.read c.fixed-equals.ensures.fixed c.fixed-equals.ensures.within
    c.right_side-equation.ensures.within c.right_side-equation.ensures.read c.fixed.ensures.fixed
