use Rattle.verilog_reader.proofs.ClockedSteps.{clocked_register_found}
use Rattle.verilog_reader.proofs.clocked.clocked_register.Goals as goal

pub returns-clause-read : goal.returns-clause-read
returns-clause-read c = λ old same.
    clocked_register_found c.args.bytes.now old c.args.net c.args.width c.next_of.result.0 c.args.spot c.fixed-begun.result c.clocked_net-named.result c.fixed-takes.result c.next_of.result.1
    c.fixed-begun.ensures.fixed (c.clocked_net-named.ensures.read old same.count) c.fixed-takes.ensures.fixed (c.next_of.ensures.read old same)
