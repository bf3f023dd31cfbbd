use Rattle.verilog_reader.proofs.RightSteps.{second_found}
use Rattle.verilog_reader.proofs.right.second.Goals as goal

pub returns-clause-read : goal.returns-clause-read
returns-clause-read c make =
    second_found c.args.lines.now c.args.wanted c.args.sign.now make c.args.bytes.now c.args.spot c.fixed-behind.result c.operand.result.0 c.operand.result.1 c.fixed-behind.ensures.fixed c.operand.ensures.read
