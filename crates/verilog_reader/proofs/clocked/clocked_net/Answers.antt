use Rattle.verilog_forms.specs.ClockedLines.{clocked_net_test}
use Rattle.verilog_reader.specs.ClockedParts.{is_due}
use Rattle.verilog_reader.specs.DeclaredLines.{nothing_told}
use Rattle.verilog_reader.proofs.clocked.clocked_net.Goals as goal

pub returns-clause-read : goal.returns-clause-read
returns-clause-read c = λ lines counted. (c.take-behind.ensures.taken (clocked_net_test lines (is_due c.args.due)) nothing_told (c.net_in.ensures lines counted)).leads
