use Rattle.system_scripts.proofs.SystemDraftLemmas.{connection_is_new}
use Rattle.system_scripts.proofs.system_draft.SystemDraft.state_connection.Goals as goal

pub join-requires : goal.join-requires
join-requires c =
    connection_is_new c.args.library.now c.args.self.now c.args.words.now c.in-Some.joint.start c.in-Some.joint.end c.requires c.in-Some.ensures.start c.in-Some.ensures.end
