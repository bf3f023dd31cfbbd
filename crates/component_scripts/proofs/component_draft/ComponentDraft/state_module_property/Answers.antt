use Rattle.std.proofs.Common.{sym, ◌∙◌, subst}
use Rattle.std.specs.Prelude.{IsTrue}
use Rattle.system_tables.specs.Names.{is_name}
use Rattle.component_scripts.proofs.ComponentDraftLemmas.{IsComponentDraft-named, type_is_named, shown}
use Rattle.component_scripts.proofs.component_draft.ComponentDraft.state_module_property.Goals as goal

pub invariant_of-self : goal.invariant_of-self
invariant_of-self c =
    let name = type_is_named (shown c.self.inside) c.args.words.now (rw (← c.self.view_is) at c.requires) (sym c.names_type.ensures ∙ c.if-names_type.true) in
    IsComponentDraft-named _ _ _ _ c.self.invariant (subst (λ t. IsTrue (is_name t)) (sym (c.in_ok-copy.ensures ∙ c.text.ensures)) name)

pub invariant_of-self-in_ok-copy-2 : goal.invariant_of-self-in_ok-copy-2
invariant_of-self-in_ok-copy-2 c =
    let name = type_is_named (shown c.self.inside) c.args.words.now (rw (← c.self.view_is) at c.requires) (sym c.names_type.ensures ∙ c.if-names_type.true) in
    IsComponentDraft-named _ _ _ _ c.self.invariant (subst (λ t. IsTrue (is_name t)) (sym (c.in_ok-copy.ensures ∙ c.text.ensures)) name)
