use Rattle.script_words.proofs.NamesLemmas.{added}
use Rattle.script_words.proofs.names.Names.add.Goals as goal

pub returns-clause-ok : goal.returns-clause-ok
returns-clause-ok c =
    let none = rw (← c.self.view_is) at c.requires in
    rw (← c.self.view_is) (added c.self.inside.names.keys _ _ _ c.in_ok-from_str.ensures.ok none c.in_ok-insert.ensures.keys)
