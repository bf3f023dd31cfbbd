use Rattle.std.proofs.Common.{arith}
use Rattle.verilog_reader.proofs.Numbers.{memory_passes_by, memory_breaks_by}
use Rattle.verilog_reader.proofs.right.memory_in.Goals as goal

pub returns-then-words_of-width : goal.returns-then-words_of-width
returns-then-words_of-width c =
    memory_breaks_by c.args.memories.now c.args.width c.args.run.now c.in-Some.memory c.words_of.result c.in-Some.ensures.0 c.in-Some.ensures.1 (omega arith) c.requires c.words_of.ensures c.if-words_of-width.true

pub returns : goal.returns
returns c = memory_passes_by c.args.memories.now c.args.width c.args.run.now c.in-Some.memory c.words_of.result c.in-Some.ensures.0 c.in-Some.ensures.1 (omega arith) c.requires c.words_of.ensures c.if-words_of-width.false
