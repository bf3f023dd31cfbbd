use Rattle.netlist.proofs.Memories.{read_known}
use Rattle.netlist.proofs.builder.Builder.read_memory.Goals as goal

pub append_computed-requires-clause-sound : goal.append_computed-requires-clause-sound
append_computed-requires-clause-sound c =
    read_known c.args.self.now c.args.mem c.number.result c.number-2.result c.args.address.number c.args.address.width c.word_width-width.result c.number.ensures c.number-2.ensures c.word_width-width.ensures.value c.requires.mem_is c.requires.address_is c.requires.widths
