use Rattle.std.proofs.Common.{sym, ap, ◌∙◌}
use Rattle.netlist.specs.declared.line.Equation.{Equation}
use Rattle.settled_netlists.specs.Values.{given_by}
use Rattle.settled_netlists.proofs.Given.{told, told_may_give}
use Rattle.settled_netlists.proofs.giving.given_by.Goals as goal

pub given_by_equation-requires : goal.given_by_equation-requires
given_by_equation-requires c =
    told_may_give c.args.module.now c.args.values.now c.args.net c.equation.result c.requires.module c.requires.net_is c.requires.widths c.equation.ensures

pub returns : goal.returns
returns c line at =
    c.given_by_equation.ensures ∙ ap (λ (e : Equation). given_by c.args.values.now e) (sym (told c.args.module.now c.args.net c.equation.result line c.equation.ensures at))
