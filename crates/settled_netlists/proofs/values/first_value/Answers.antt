use Rattle.std.proofs.Common.{sym, ap, ◌∙◌}
use Rattle.netlist.specs.declared.line.Equation.{Equation}
use Rattle.netlist.specs.declared.line.Equation.TheVariants.{Reg}
use Rattle.settled_netlists.specs.Lines.{first_given}
use Rattle.settled_netlists.proofs.Given.{told}
use Rattle.settled_netlists.proofs.Rounds.{first_other}
use Rattle.settled_netlists.proofs.values.first_value.Goals as goal

pub returns-in-Reg : goal.returns-in-Reg
returns-in-Reg c line at =
    ap (λ (e : Equation). first_given c.args.values.now e) (sym (told c.args.module.now c.args.net (Reg c.in-Reg.reset c.in-Reg.next) line c.in-Reg.ensures at))

pub returns-in_default : goal.returns-in_default
returns-in_default c line at =
    c.given_by.ensures line at
    ∙ sym (first_other c.args.values.now line.equation (λ reset next is. c.in_default.not-Reg reset next (sym (told c.args.module.now c.args.net c.equation.result line c.equation.ensures at) ∙ is)))
