use Rattle.std.proofs.Common.{sym, ◌∙◌}
use Rattle.std.specs.Prelude.{string_bytes}
use Rattle.std.specs.Str.{bytes_eq}
use Rattle.script_words.specs.Laws.{position-map}
use Rattle.script_words.proofs.names.Names.find.Goals as goal

pub returns : goal.returns
returns c =
    let found = sym (position-map (bytes_eq c.args.name.now) string_bytes c.self.inside.names.keys) in
    rw (← c.self.view_is) (c.get_index_of.ensures.index ∙ found)
