use Rattle.netlist.specs.Netlists.{memory_of}
use Rattle.verilog_writer.proofs.TextLemmas.{written_more, writes_step}
use Rattle.verilog_writer.proofs.put_writes.Goals as goal

pub loop-number-preserved : goal.loop-number-preserved
loop-number-preserved c =
    written_more _ _ _ _ _ _ c.in_ok-put_write.ensures (writes_step c.args.module.now.memories c.loop-number.number (memory_of c.memory.result) c.memory.ensures) c.loop-number.invariant
