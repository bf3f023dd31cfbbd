use Rattle.verilog_forms.specs.MemoryLines.{last_test}
use Rattle.verilog_reader.specs.DeclaredLines.{last_told}
use Rattle.verilog_reader.proofs.DeclaredSteps.{memory_found}
use Rattle.verilog_reader.proofs.declared_lines.memory_line.Goals as goal

pub returns-clause-read : goal.returns-clause-read
returns-clause-read c =
    memory_found c.args.bytes.now c.args.number c.range-width.result.0 c.take-address_bits.result.0 c.args.spot c.fixed-begun.result c.range-width.result.1 c.fixed-lettered.result c.numbered-behind.result
    c.fixed-opened.result c.take-address_bits.result.1 c.fixed.result
    c.fixed-begun.ensures.fixed c.range-width.ensures.read c.fixed-lettered.ensures.fixed c.numbered-behind.ensures.read c.fixed-opened.ensures.fixed
    (c.take-address_bits.ensures.taken last_test last_told c.last_in.ensures) c.fixed.ensures.fixed
