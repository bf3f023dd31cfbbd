use Rattle.std.proofs.Common.{ap, ◌∙◌}
use Rattle.std.specs.Prelude.{position}
use Rattle.script_words.specs.Joints.{same_link}
use Rattle.system_scripts.specs.System.{link_of}
use Rattle.script_words.specs.Laws.{position-map}
use Rattle.system_scripts.proofs.system_draft.SystemDraft.joint_at.Goals as goal

pub returns : goal.returns
returns c =
    rw (← c.self.view_is)
    (c.find.ensures
    ∙ ap (position (same_link (record { start = c.args.start; end = c.args.end }))) c.self.invariant.linked
    ∙ position-map (same_link (record { start = c.args.start; end = c.args.end })) link_of c.self.inside.joints.items)
