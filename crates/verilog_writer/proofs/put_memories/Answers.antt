use Rattle.netlist.specs.Netlists.{memory_of}
use Rattle.verilog_writer.proofs.TextLemmas.{written_more, memories_step}
use Rattle.verilog_writer.proofs.put_memories.Goals as goal

pub put_memory-requires-clause-some_bit : goal.put_memory-requires-clause-some_bit
put_memory-requires-clause-some_bit c = (c.requires.well_made.memories c.loop-number.number (memory_of c.memory.result) c.memory.ensures).some_bit

pub put_memory-requires-clause-few : goal.put_memory-requires-clause-few
put_memory-requires-clause-few c = (c.requires.well_made.memories c.loop-number.number (memory_of c.memory.result) c.memory.ensures).few_addresses

pub loop-number-preserved : goal.loop-number-preserved
loop-number-preserved c =
    written_more _ _ _ _ _ _ c.in_ok-put_memory.ensures (memories_step c.args.module.now.memories c.loop-number.number (memory_of c.memory.result) c.memory.ensures) c.loop-number.invariant
