use Rattle.script_words.specs.Roots.{start_for}
use Rattle.script_words.proofs.system.RootLemmas.{start_for-added, none_from}
use Rattle.script_words.proofs.system.roots.Roots.add.Goals as goal

pub returns-in_ok-insert : goal.returns-in_ok-insert
returns-in_ok-insert c = λ other.
    rw (← c.self.view_is)
    (start_for-added (start_for c.self.inside.starts.entries) (start_for c.insert.new.self.entries) c.args.end c.args.start other
    (none_from _ _ _ c.get.ensures.value c.is_none.ensures c.if-is_none.true) c.in_ok-insert.ensures.updates.0)
