use Rattle.std.proofs.Common.{◌≡◌, false, sym, subst}
use Rattle.std.specs.Prelude.{is_some}
use Rattle.script_words.specs.Names.{place_of}
use Rattle.system_scripts.proofs.SystemDraftLemmas.{exported_is_new}
use Rattle.system_scripts.proofs.system_draft.SystemDraft.state_exported.Goals as goal

pub add-requires : goal.add-requires
add-requires c =
    let new = exported_is_new c.args.self.now c.args.words.now c.requires in
    subst (λ n. is_some (place_of c.self.inside.exported n) ≡ false) (sym c.text.ensures) (rw (← c.self.view_is) at new)
