use Rattle.std.proofs.Common.{◌++◌, ◌∷◌, [], ap, ◌∙◌}
use Rattle.std.specs.Prelude.{if◌then◌else◌}
use Rattle.std.specs.List.{list_any}
use Rattle.script_words.specs.Joints.{same_link}
use Rattle.script_words.specs.Laws.{none_passes}
use Rattle.script_words.proofs.system.links.add_link.Goals as goal

pub returns-clause-links : goal.returns-clause-links
returns-clause-links c =
    let keys = rw c.unwrap.ensures at c.insert.ensures.keys in
    let none = (none_passes (same_link c.args.link) c.links.inside.links.keys (rw (← c.links.view_is) at c.requires)).1 in
    rw (← c.links.view_is)
    (keys
    ∙ ap (λ xs. if list_any (same_link c.args.link) xs then xs else xs ++ c.args.link ∷ []) c.in_ok-reserve.ensures.keys
    ∙ ap (λ b. if b then c.links.inside.links.keys else (c.links.inside.links.keys ++ c.args.link ∷ [])) none)
