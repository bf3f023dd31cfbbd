use Rattle.script_words.proofs.NamesLemmas.{IsDistinct-bytes}
use Rattle.script_words.proofs.names.Names.distinct.Goals as goal

pub returns : goal.returns
returns c = rw (← c.self.view_is) (IsDistinct-bytes c.self.inside.names.keys c.len.ensures.unique)
