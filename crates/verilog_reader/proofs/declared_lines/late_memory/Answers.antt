use Rattle.verilog_reader.proofs.DeclaredSteps.{late_memory_found}
use Rattle.verilog_reader.proofs.declared_lines.late_memory.Goals as goal

pub returns-clause-read : goal.returns-clause-read
returns-clause-read c = λ memories.
    late_memory_found c.args.bytes.now c.range-ranged.result.0 memories c.args.spot c.fixed-begun.result c.range-ranged.result.1 c.fixed-lettered.result c.refuse.result
    c.fixed-begun.ensures.fixed c.range-ranged.ensures.read c.fixed-lettered.ensures.fixed c.refuse.ensures
