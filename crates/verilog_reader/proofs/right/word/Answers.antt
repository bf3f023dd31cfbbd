use Rattle.verilog_forms.specs.RightSides.{value_of, memory_test}
use Rattle.verilog_reader.proofs.RightSteps.{word_found}
use Rattle.verilog_reader.proofs.right.word.Goals as goal

pub returns-clause-read : goal.returns-clause-read
returns-clause-read c =
    word_found c.args.memories.now c.args.lines.now c.args.width c.bits_of.result c.args.bytes.now c.args.spot c.fixed-lettered.result c.take-memory.result.0 c.take-memory.result.1 c.fixed-opened.result c.operand-address.result.0 c.operand-address.result.1 c.fixed.result
    c.bits_of.ensures c.fixed-lettered.ensures.fixed (c.take-memory.ensures.taken (memory_test c.args.memories.now c.args.width) value_of c.memory_in.ensures) c.fixed-opened.ensures.fixed c.operand-address.ensures.read c.fixed.ensures.fixed
