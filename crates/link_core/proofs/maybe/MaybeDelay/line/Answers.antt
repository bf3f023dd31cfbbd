use Rattle.std.proofs.Common.{sym, subst}
use Rattle.std.specs.Prelude.{unwrap_or, option_map}
use Rattle.command_nets.specs.Nets.{port_in}
use Rattle.link_core.specs.Lines.{KeepsLine, RunsAsStages}
use Rattle.link_core.specs.MaybeNets.{form_of, command_of, answer_of}
use Rattle.link_core.proofs.Between.{of_some}
use Rattle.link_core.proofs.LineBetween.{pass_line_between}
use Rattle.link_core.proofs.StagesInRow.{pass_machines_between}
use Rattle.link_core.proofs.maybe.MaybeDelay.line.Goals as goal

pub returns-in-None-clause-line : goal.returns-in-None-clause-line
returns-in-None-clause-line g c form from to kept wait up answer back netlist p f b run endless =
    subst (λ link. KeepsLine (unwrap_or (option_map g.L.Delay.stages link) 0) form (port_in form.up run from up back) (port_in form.down run to wait answer)) (sym c.in-None.is)
    (pass_line_between form from to wait up answer back run (subst (λ link. form_of g.L.Delay.has_line link form) c.in-None.is p) (subst (λ link. command_of g.L.Link.command_in link from to kept netlist) c.in-None.is f)
    (subst (λ link. answer_of g.L.Link.answer_in link kept wait answer up back netlist) c.in-None.is b) c.registers_are_a_pipe.ensures.none)

pub returns-in-Some-clause-line : goal.returns-in-Some-clause-line
returns-in-Some-clause-line g c form from to kept wait up answer back netlist p f b run endless =
    subst (λ link. KeepsLine (unwrap_or (option_map g.L.Delay.stages link) 0) form (port_in form.up run from up back) (port_in form.down run to wait answer)) (sym c.in-Some.is)
    (λ system agent end tag later tags.
    of_some g.L.Link.command_in g.L.Link.answer_in c.in-Some.link from to kept wait up answer back netlist _
    (λ held x y. c.line.ensures.line form from to held wait up answer back netlist (subst (λ link. form_of g.L.Delay.has_line link form) c.in-Some.is p) x y run endless system agent end tag later tags)
    (subst (λ link. command_of g.L.Link.command_in link from to kept netlist) c.in-Some.is f) (subst (λ link. answer_of g.L.Link.answer_in link kept wait answer up back netlist) c.in-Some.is b))

pub returns-in-None-clause-machines : goal.returns-in-None-clause-machines
returns-in-None-clause-machines g c form from to kept wait up answer back netlist p f b run endless =
    subst (λ link. RunsAsStages (unwrap_or (option_map g.L.Delay.stages link) 0) (port_in form.up run from up back) (port_in form.down run to wait answer)) (sym c.in-None.is)
    (pass_machines_between form from to wait up answer back run (subst (λ link. form_of g.L.Delay.has_line link form) c.in-None.is p) (subst (λ link. command_of g.L.Link.command_in link from to kept netlist) c.in-None.is f)
    (subst (λ link. answer_of g.L.Link.answer_in link kept wait answer up back netlist) c.in-None.is b))

pub returns-in-Some-clause-machines : goal.returns-in-Some-clause-machines
returns-in-Some-clause-machines g c form from to kept wait up answer back netlist p f b run endless =
    subst (λ link. RunsAsStages (unwrap_or (option_map g.L.Delay.stages link) 0) (port_in form.up run from up back) (port_in form.down run to wait answer)) (sym c.in-Some.is)
    (of_some g.L.Link.command_in g.L.Link.answer_in c.in-Some.link from to kept wait up answer back netlist _
    (λ held x y. c.line.ensures.machines form from to held wait up answer back netlist (subst (λ link. form_of g.L.Delay.has_line link form) c.in-Some.is p) x y run endless)
    (subst (λ link. command_of g.L.Link.command_in link from to kept netlist) c.in-Some.is f) (subst (λ link. answer_of g.L.Link.answer_in link kept wait answer up back netlist) c.in-Some.is b))
