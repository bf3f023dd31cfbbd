use Rattle.std.proofs.Common.{sym, ap, ◌∙◌}
use Rattle.std.proofs.lemmas.Option.{same_Some}
use Rattle.netlist.specs.declared.line.Line.{Line}
use Rattle.netlist.specs.declared.line.Equation.TheVariants.{Reg}
use Rattle.lane_sim.proofs.Lines.{here, some_width}
use Rattle.lane_sim.proofs.nets.first_value.Goals as goal

pub zero-requires : goal.zero-requires
zero-requires c =
    let some = some_width c.args.module.now c.args.net c.width.result c.requires.module c.width.ensures in
    record { some_bit = some.some_bit; small = some.small }

pub returns-in-Reg-clause-width : goal.returns-in-Reg-clause-width
returns-in-Reg-clause-width c line at =
    let h = here c.args.module.now c.args.net (Reg c.in-Reg.reset c.in-Reg.next) c.requires.module c.requires.net_is c.in-Reg.ensures in
    h.sound.width ∙ ap (λ (l : Line). l.width) (same_Some _ _ (sym h.at ∙ at))
