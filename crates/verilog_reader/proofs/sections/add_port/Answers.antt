use Rattle.std.proofs.Common.{length}
use Rattle.verilog_reader.proofs.SectionSteps.{port_skipped}
use Rattle.verilog_reader.proofs.sections.add_port.Goals as goal

pub returns-then-port-clause-leads : goal.returns-then-port-clause-leads
returns-then-port-clause-leads c = λ all start ports.
    let lines = c.args.lines.now.items in
    port_skipped (length lines) c.args.number c.args.port.now ports all c.args.bytes.now start lines c.args.spot c.if-port.true
