use Rattle.std.proofs.Common.{ap, ◌∙◌}
use Rattle.std.specs.Prelude.{is_some}
use Rattle.system_scripts.specs.System.{instance_place}
use Rattle.system_scripts.proofs.SystemDraftLemmas.{instance_is_new}
use Rattle.system_scripts.proofs.system_draft.SystemDraft.state_instance.Goals as goal

pub add_instance-requires : goal.add_instance-requires
unfolding instance_place
add_instance-requires c =
    let draft = c.args.self.now in
    ap (λ n. is_some (instance_place draft.instances n)) (c.in_ok-name.ensures ∙ c.text-in-Some.ensures) ∙ instance_is_new c.args.library.now draft c.args.words.now c.requires
