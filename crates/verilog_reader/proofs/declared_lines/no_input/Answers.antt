use Rattle.verilog_reader.proofs.DeclaredSteps.{no_input_found}
use Rattle.verilog_reader.proofs.declared_lines.no_input.Goals as goal

pub returns-clause-read : goal.returns-clause-read
returns-clause-read c = λ line.
    no_input_found c.args.bytes.now c.range-ranged.result.0 line c.args.spot c.fixed-begun.result c.range-ranged.result.1 c.fixed-lettered.result c.refuse.result
    c.fixed-begun.ensures.fixed c.range-ranged.ensures.read c.fixed-lettered.ensures.fixed c.refuse.ensures
