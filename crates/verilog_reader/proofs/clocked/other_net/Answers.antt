use Rattle.verilog_reader.proofs.ClockedSteps.{other_net_found}
use Rattle.verilog_reader.proofs.clocked.other_net.Goals as goal

pub returns-clause-read : goal.returns-clause-read
returns-clause-read c = λ old none counted.
    other_net_found c.args.bytes.now old none c.args.spot c.fixed-begun.result c.clocked_net-named.result c.refuse.result c.fixed-begun.ensures.fixed (c.clocked_net-named.ensures.read old counted) c.refuse.ensures
