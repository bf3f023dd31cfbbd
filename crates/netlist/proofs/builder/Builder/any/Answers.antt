use Rattle.netlist.proofs.Growth.{any_known}
use Rattle.netlist.proofs.builder.Builder.any.Goals as goal

pub append_computed-requires-clause-sound : goal.append_computed-requires-clause-sound
append_computed-requires-clause-sound c = any_known c.args.self.now c.number.result c.args.a.number c.args.a.width c.number.ensures c.requires.a_is
