use Rattle.std.proofs.Common.{ap, ◌∙◌}
use Rattle.std.specs.Prelude.{position, is_some}
use Rattle.script_words.specs.Joints.{same_link}
use Rattle.system_scripts.specs.System.{link_of}
use Rattle.script_words.specs.Laws.{position-map}
use Rattle.system_scripts.proofs.system_draft.SystemDraft.join.Goals as goal

pub add_link-requires : goal.add_link-requires
add_link-requires c =
    let link = link_of c.args.joint in
    ap (λ ls. is_some (position (same_link link) ls)) c.self.invariant.linked
    ∙ ap is_some (position-map (same_link link) link_of c.self.inside.joints.items)
    ∙ rw (← c.self.view_is) at c.requires
