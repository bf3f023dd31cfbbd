use Rattle.verilog_reader.specs.ClockedParts.{is_due}
use Rattle.verilog_reader.proofs.ClockedSteps.{enabled_found}
use Rattle.verilog_reader.proofs.clocked.enabled_memory.Goals as goal

pub returns-clause-read : goal.returns-clause-read
returns-clause-read c = λ old all same counted.
    enabled_found c.args.bytes.now all old c.args.lines.now (is_due c.args.due) c.operand-enable.result.0 c.args.spot c.operand-enable.result.1 c.fixed-letter.result c.clocked_memory.result
    same c.operand-enable.ensures.read c.fixed-letter.ensures.fixed (c.clocked_memory.ensures.read all counted)
