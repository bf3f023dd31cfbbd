use Rattle.std.proofs.Common.{ap, ◌∙◌}
use Rattle.std.specs.Prelude.{◌||◌}
use Rattle.script_words.specs.Joints.{same_end}
use Rattle.script_words.proofs.system.LinkLemmas.{there_after}
use Rattle.script_words.proofs.system.links.Ends.add_both.Goals as goal

pub returns-clause-ok : goal.returns-clause-ok
returns-clause-ok c = λ end.
    let start = rw c.unwrap.ensures at c.insert.ensures.updates in
    let both = rw c.unwrap-2.ensures at c.insert-2.ensures.updates in
    rw (← c.self.view_is)
    (both.0 end
    ∙ there_after _ c.args.link.end end
    ∙ ap (λ b. b || same_end end c.args.link.end)
    (start.0 end
    ∙ there_after _ c.args.link.start end
    ∙ ap (λ b. b || same_end end c.args.link.start) (c.in_ok-reserve.ensures.keys.2 end)))
