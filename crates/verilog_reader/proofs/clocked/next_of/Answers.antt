use Rattle.verilog_reader.proofs.ClockedSteps.{next_found}
use Rattle.verilog_reader.proofs.clocked.next_of.Goals as goal

pub returns-clause-read : goal.returns-clause-read
returns-clause-read c = λ old same.
    next_found c.args.bytes.now old c.args.lines.now c.args.net c.args.width c.constant-reset.result.0 c.operand-next.result.0 c.args.spot c.constant-reset.result.1 c.fixed-other.result c.clocked_net-named.result
    c.fixed-takes.result c.operand-next.result.1 c.fixed-end.result same c.requires.within c.constant-reset.ensures.within c.constant-reset.ensures.read c.fixed-other.ensures.fixed
    (c.clocked_net-named.ensures.read old same.count) c.fixed-takes.ensures.fixed c.operand-next.ensures.read c.fixed-end.ensures.fixed
