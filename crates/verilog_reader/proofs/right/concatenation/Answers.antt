use Rattle.verilog_reader.proofs.RightSteps.{concat_found}
use Rattle.verilog_reader.proofs.right.concatenation.Goals as goal

pub returns-clause-read : goal.returns-clause-read
returns-clause-read c =
    concat_found c.args.lines.now c.args.width c.width_of.result c.args.bytes.now c.args.spot c.fixed-opened.result c.operand-a.result.0 c.operand-a.result.1 c.fixed-comma.result c.operand-b.result.0 c.operand-b.result.1 c.fixed.result
    c.width_of.ensures c.fixed-opened.ensures.fixed c.operand-a.ensures.read c.fixed-comma.ensures.fixed c.operand-b.ensures.read c.fixed.ensures.fixed
