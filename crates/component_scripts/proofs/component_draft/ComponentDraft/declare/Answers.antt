use Rattle.std.proofs.Common.{◌≡◌, ◌++◌, ◌∷◌, [], false, sym, ap, ◌∙◌, subst}
use Rattle.std.specs.Prelude.{is_some}
use Rattle.script_words.specs.Names.{place_of}
use Rattle.component_scripts.proofs.ComponentDraftLemmas.{IsComponentDraft-push, is_some-held}
use Rattle.component_scripts.proofs.component_draft.ComponentDraft.declare.Goals as goal

pub add_for-requires : goal.add_for-requires
add_for-requires c =
    let new = is_some-held c.self.inside.names c.self.inside.interfaces.items c.args.declared.name c.self.invariant.all ∙ (rw (← c.self.view_is) at c.requires.new) in
    subst (λ n. is_some (place_of c.self.inside.names n) ≡ false) (sym c.as_str.ensures) new

pub invariant_of-self-2 : goal.invariant_of-self-2
invariant_of-self-2 c =
    let pushed = rw c.unwrap.ensures at c.push.ensures.items in
    IsComponentDraft-push _ _ _ _ _ c.args.declared c.self.invariant c.requires.name (c.in_ok-add_for.ensures.ok ∙ ap (λ n. c.self.inside.names ++ n ∷ []) c.as_str.ensures) (pushed ∙ ap (λ xs. xs ++ c.args.declared ∷ []) c.in_ok-add_for.ensures.items)
