use Rattle.std.proofs.Common.{sym, subst}
use Rattle.memory_links.specs.Links.{LinkForm, IsLink}
use Rattle.command_nets.specs.Nets.{port_in}
use Rattle.mm_split.proofs.SplitBetween.{split_runs, split_ignores}
use Rattle.mm_split.proofs.split.SplitLink.law.Goals as goal

pub returns-clause-machine : goal.returns-clause-machine
returns-clause-machine c form from to kept wait up answer back netlist p f b run endless = split_runs _ form from to kept wait up answer back netlist run p f b endless

pub returns-clause-straight : goal.returns-clause-straight
returns-clause-straight c form from to kept wait up answer back netlist p f b run endless end asked = absurd p

pub returns-clause-ignores_answer : goal.returns-clause-ignores_answer
returns-clause-ignores_answer c from to kept netlist f one other v w state words same = split_ignores _ from to kept netlist one other f v w state same

pub returns-clause-keeps : goal.returns-clause-keeps
returns-clause-keeps c form from to kept wait up answer back netlist p f b run endless end asked joins =
    let runs = split_runs _ form from to kept wait up answer back netlist run p f b endless in
    subst (λ (l : LinkForm). IsLink l (port_in form.up run from up back) (port_in form.down run to wait answer) end) (sym p.is)
    (c.split_is_a_link.ensures form.link.target _ _ _ _ _ end runs.plan runs.some runs.run)
