use Rattle.netlist.proofs.Growth.{comparison_known}
use Rattle.netlist.proofs.builder.Builder.eq.Goals as goal

pub append_computed-requires-clause-sound : goal.append_computed-requires-clause-sound
append_computed-requires-clause-sound c =
    comparison_known c.args.self.now c.number.result c.number-2.result c.args.a.number c.args.b.number c.args.a.width c.args.b.width c.number.ensures c.number-2.ensures c.requires.a_is c.requires.b_is c.requires.widths
