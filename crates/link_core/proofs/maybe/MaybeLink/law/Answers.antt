use Rattle.std.proofs.Common.{◌≡◌, refl, sym, subst}
use Rattle.std.specs.Prelude.{IfSome}
use Rattle.command_nets.specs.Nets.{port_in}
use Rattle.link_core.specs.Form.{KeepsLaw, KeepsStraight}
use Rattle.link_core.specs.MaybeNets.{form_of, runs_of, command_of, answer_of}
use Rattle.link_core.proofs.Between.{at_pass, pass_between, pass_straight_between, of_some, kept_ignores}
use Rattle.link_core.proofs.maybe.MaybeLink.law.Goals as goal

pub returns-in-None-clause-keeps : goal.returns-in-None-clause-keeps
returns-in-None-clause-keeps g c form from to kept wait up answer back netlist p f b run endless end asked =
    pass_between form from to wait up answer back run end (subst (λ link. form_of g.L.Link.has_form link form) c.in-None.is p) (subst (λ link. command_of g.L.Link.command_in link from to kept netlist) c.in-None.is f)
    (subst (λ link. answer_of g.L.Link.answer_in link kept wait answer up back netlist) c.in-None.is b) c.pass_is_a_link.ensures.link

pub returns-in-Some-clause-keeps : goal.returns-in-Some-clause-keeps
returns-in-Some-clause-keeps g c form from to kept wait up answer back netlist p f b run endless end asked =
    of_some g.L.Link.command_in g.L.Link.answer_in c.in-Some.link from to kept wait up answer back netlist (KeepsLaw form (port_in form.up run from up back) (port_in form.down run to wait answer) end)
    (λ held x y. c.law.ensures.keeps form from to held wait up answer back netlist (subst (λ link. form_of g.L.Link.has_form link form) c.in-Some.is p) x y run endless end (λ k low. subst (λ link. IfSome link (λ part. g.L.Link.asks part form.link.target (port_in form.up run from up back) k)) c.in-Some.is (asked k low)))
    (subst (λ link. command_of g.L.Link.command_in link from to kept netlist) c.in-Some.is f) (subst (λ link. answer_of g.L.Link.answer_in link kept wait answer up back netlist) c.in-Some.is b)

pub returns-in-None-clause-machine : goal.returns-in-None-clause-machine
returns-in-None-clause-machine g c form from to kept wait up answer back netlist p f b run endless =
    subst (λ link. runs_of g.L.Link.runs link form.link.target (port_in form.up run from up back) (port_in form.down run to wait answer)) (sym c.in-None.is)
    (at_pass (λ above below. above ≡ below) form from to wait up answer back run (subst (λ link. form_of g.L.Link.has_form link form) c.in-None.is p) (subst (λ link. command_of g.L.Link.command_in link from to kept netlist) c.in-None.is f)
    (subst (λ link. answer_of g.L.Link.answer_in link kept wait answer up back netlist) c.in-None.is b) refl)

pub returns-in-Some-clause-machine : goal.returns-in-Some-clause-machine
returns-in-Some-clause-machine g c form from to kept wait up answer back netlist p f b run endless =
    subst (λ link. runs_of g.L.Link.runs link form.link.target (port_in form.up run from up back) (port_in form.down run to wait answer)) (sym c.in-Some.is)
    (of_some g.L.Link.command_in g.L.Link.answer_in c.in-Some.link from to kept wait up answer back netlist (g.L.Link.runs c.in-Some.link form.link.target (port_in form.up run from up back) (port_in form.down run to wait answer))
    (λ held x y. c.law.ensures.machine form from to held wait up answer back netlist (subst (λ link. form_of g.L.Link.has_form link form) c.in-Some.is p) x y run endless)
    (subst (λ link. command_of g.L.Link.command_in link from to kept netlist) c.in-Some.is f) (subst (λ link. answer_of g.L.Link.answer_in link kept wait answer up back netlist) c.in-Some.is b))

pub returns-in-None-clause-straight : goal.returns-in-None-clause-straight
returns-in-None-clause-straight g c form from to kept wait up answer back netlist p f b run endless end asked =
    pass_straight_between form from to wait up answer back run end (subst (λ link. form_of g.L.Link.is_straight link form) c.in-None.is p) (subst (λ link. command_of g.L.Link.command_in link from to kept netlist) c.in-None.is f)
    (subst (λ link. answer_of g.L.Link.answer_in link kept wait answer up back netlist) c.in-None.is b) c.pass_is_a_link.ensures.straight c.pass_goes_in_step.ensures

pub returns-in-Some-clause-straight : goal.returns-in-Some-clause-straight
returns-in-Some-clause-straight g c form from to kept wait up answer back netlist p f b run endless end asked =
    of_some g.L.Link.command_in g.L.Link.answer_in c.in-Some.link from to kept wait up answer back netlist (KeepsStraight form (port_in form.up run from up back) (port_in form.down run to wait answer) end)
    (λ held x y. c.law.ensures.straight form from to held wait up answer back netlist (subst (λ link. form_of g.L.Link.is_straight link form) c.in-Some.is p) x y run endless end (λ k low. subst (λ link. IfSome link (λ part. g.L.Link.asks part form.link.target (port_in form.up run from up back) k)) c.in-Some.is (asked k low)))
    (subst (λ link. command_of g.L.Link.command_in link from to kept netlist) c.in-Some.is f) (subst (λ link. answer_of g.L.Link.answer_in link kept wait answer up back netlist) c.in-Some.is b)

pub returns-in-Some-clause-ignores_answer : goal.returns-in-Some-clause-ignores_answer
returns-in-Some-clause-ignores_answer g c from to kept netlist f one other v w state words same =
    kept_ignores g.L.Link.command_in g.L.Link.owns g.L.Link.owns_memories c.in-Some.link from to kept netlist one other (λ held before owned stored shown. c.law.ensures.ignores_answer from to held netlist before one other v w owned stored shown)
    (subst (λ link. command_of g.L.Link.command_in link from to kept netlist) c.in-Some.is f) state words same
