use Rattle.std.proofs.Common.{◌≡◌, false, sym, ap, ◌∙◌, subst}
use Rattle.std.specs.Prelude.{is_some}
use Rattle.script_words.specs.Names.{place_of}
use Rattle.system_scripts.specs.System.{instance_place}
use Rattle.system_scripts.proofs.system_draft.SystemDraft.add_instance.Goals as goal

pub add_for-requires : goal.add_for-requires
unfolding instance_place
add_for-requires c =
    let new = rw (← c.self.view_is) at c.requires in
    subst (λ n. is_some (place_of c.self.inside.names n) ≡ false) (sym c.as_str.ensures)
    (ap (λ ns. is_some (place_of ns c.args.instance.name)) c.self.invariant.all ∙ new)
