use Rattle.std.proofs.Common.{ap, ◌∙◌}
use Rattle.script_words.specs.Names.{place_of}
use Rattle.component_scripts.specs.Tables.{interface_place}
use Rattle.component_scripts.proofs.types.component.Component.find.Goals as goal

pub returns : goal.returns
unfolding interface_place
returns c = rw (← c.self.view_is) (c.find.ensures ∙ ap (λ ns. place_of ns c.args.name.now) c.self.invariant.1)
