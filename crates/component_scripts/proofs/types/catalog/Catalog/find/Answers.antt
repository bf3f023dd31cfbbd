use Rattle.std.proofs.Common.{ap, ◌∙◌}
use Rattle.script_words.specs.Names.{place_of}
use Rattle.component_scripts.proofs.types.catalog.Catalog.find.Goals as goal

pub returns : goal.returns
returns c = rw (← c.self.view_is) (c.find.ensures ∙ ap (λ ns. place_of ns c.args.name.now) c.self.invariant.all)
