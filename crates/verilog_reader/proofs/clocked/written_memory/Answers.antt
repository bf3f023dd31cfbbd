use Rattle.verilog_reader.proofs.ClockedSteps.{written_found}
use Rattle.verilog_reader.proofs.clocked.written_memory.Goals as goal

pub returns-clause-read : goal.returns-clause-read
returns-clause-read c = λ old all same counted.
    let m = c.enabled_memory-enable in
    written_found c.args.bytes.now all old c.args.lines.now c.args.number c.args.memory.now m.result.0 c.operand-address.result.0 c.operand-word.result.0 c.args.spot m.result.1 c.fixed-opened.result c.operand-address.result.1
    c.fixed-takes.result c.operand-word.result.1 c.fixed-end.result same c.requires.within m.ensures.within (m.ensures.read old all same counted) c.fixed-opened.ensures.fixed c.operand-address.ensures.read
    c.fixed-takes.ensures.fixed c.operand-word.ensures.read c.fixed-end.ensures.fixed
