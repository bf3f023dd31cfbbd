use Rattle.netlist.proofs.Memories.{mem_read}
use Rattle.netlist.proofs.builder.Builder.word_width.Goals as goal

pub returns-clause-value : goal.returns-clause-value
returns-clause-value c = (mem_read _ c.args.self.now c.args.mem c.number.result c.index.result.now c.self.view_is c.self.invariant c.number.ensures c.requires c.index.ensures).width

pub returns-clause-bounds : goal.returns-clause-bounds
returns-clause-bounds c = (mem_read _ c.args.self.now c.args.mem c.number.result c.index.result.now c.self.view_is c.self.invariant c.number.ensures c.requires c.index.ensures).bounds
