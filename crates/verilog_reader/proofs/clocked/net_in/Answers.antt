use Rattle.verilog_forms.specs.RightSides.{is_net, net_of}
use Rattle.verilog_reader.proofs.ClockedSteps.{net_tells, net_judges}
use Rattle.verilog_reader.proofs.clocked.net_in.Goals as goal

pub returns : goal.returns
returns c = λ lines counted.
    let run = c.args.run.now in
    net_judges lines c.args.count c.args.due run c.due_in.result counted (c.due_in.ensures (is_net run) (net_of run) (net_tells run c.net_number.result c.net_number.ensures))
