use Rattle.std.proofs.Common.{length}
use Rattle.verilog_forms.specs.RightSides.{net_of, operand_test}
use Rattle.verilog_reader.specs.Holes.{fits}
use Rattle.verilog_reader.proofs.holes.operand.Goals as goal

pub returns-clause-read : goal.returns-clause-read
returns-clause-read c =
    let lines = c.args.lines.now in c.take.ensures.taken (operand_test lines (length lines) (fits c.args.wanted)) net_of c.operand_in.ensures
