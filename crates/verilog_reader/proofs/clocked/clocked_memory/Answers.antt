use Rattle.verilog_forms.specs.ClockedLines.{clocked_memory_test}
use Rattle.verilog_reader.specs.ClockedParts.{is_due}
use Rattle.verilog_reader.specs.DeclaredLines.{nothing_told}
use Rattle.verilog_reader.proofs.clocked.clocked_memory.Goals as goal

pub returns-clause-read : goal.returns-clause-read
returns-clause-read c = λ memories counted. (c.take-behind.ensures.taken (clocked_memory_test memories (is_due c.args.due)) nothing_told (c.memory_in.ensures memories counted)).leads
