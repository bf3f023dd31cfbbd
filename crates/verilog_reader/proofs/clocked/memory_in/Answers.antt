use Rattle.verilog_forms.specs.RightSides.{is_number, value_of}
use Rattle.verilog_reader.proofs.ClockedSteps.{number_tells, memory_judges}
use Rattle.verilog_reader.proofs.clocked.memory_in.Goals as goal

pub returns : goal.returns
returns c = λ memories counted.
    let run = c.args.run.now in
    memory_judges memories c.args.count c.args.due run c.due_in.result counted (c.due_in.ensures (is_number run) (value_of run) (number_tells run c.number.result c.number.ensures))
