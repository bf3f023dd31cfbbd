use Rattle.std.proofs.Common.{◌≡◌, refl}
use Rattle.link_core.proofs.Between.{at_pass, pass_between, pass_straight_between}
use Rattle.link_core.proofs.pass.PassLink.law.Goals as goal

pub returns-clause-keeps : goal.returns-clause-keeps
returns-clause-keeps c form from to kept wait up answer back netlist p f b run endless end asked = pass_between form from to wait up answer back run end p f b c.pass_is_a_link.ensures.link

pub returns-clause-machine : goal.returns-clause-machine
returns-clause-machine c form from to kept wait up answer back netlist p f b run endless = at_pass (λ above below. above ≡ below) form from to wait up answer back run p f b refl

pub returns-clause-straight : goal.returns-clause-straight
returns-clause-straight c form from to kept wait up answer back netlist p f b run endless end asked = pass_straight_between form from to wait up answer back run end p f b c.pass_is_a_link.ensures.straight c.pass_goes_in_step.ensures
