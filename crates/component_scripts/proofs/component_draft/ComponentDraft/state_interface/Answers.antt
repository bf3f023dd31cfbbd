use Rattle.std.proofs.Common.{◌++◌, ◌∷◌, [], sym, ap, ◌∙◌, subst}
use Rattle.std.specs.Prelude.{is_some, IsTrue}
use Rattle.std.specs.Option.{option_map_or}
use Rattle.component_scripts.specs.declared.component.DeclaredInterface.{DeclaredInterface}
use Rattle.component_scripts.specs.Component.{held_named, interface_effect, declared_as}
use Rattle.system_tables.specs.Names.{is_name}
use Rattle.component_scripts.proofs.ComponentDraftLemmas.{interface_is_named, interface_is_new}
use Rattle.component_scripts.proofs.component_draft.ComponentDraft.state_interface.Goals as goal

pub declare-requires-clause-name : goal.declare-requires-clause-name
declare-requires-clause-name c =
    subst (λ (d : DeclaredInterface). IsTrue (is_name d.name)) (sym c.in_ok-declared_as.ensures) (interface_is_named c.args.self.now c.args.words.now c.requires)

pub declare-requires-clause-new : goal.declare-requires-clause-new
declare-requires-clause-new c =
    let draft = c.args.self.now in
    ap (λ (d : DeclaredInterface). is_some (held_named draft.interfaces d.name)) c.in_ok-declared_as.ensures ∙ interface_is_new draft c.args.words.now c.requires

pub returns-in_ok-declare : goal.returns-in_ok-declare
unfolding interface_effect
returns-in_ok-declare c =
    let draft = c.args.self.now in
    c.in_ok-declare.ensures
    ∙ ap (λ (d : DeclaredInterface). record draft { interfaces = draft.interfaces ++ d ∷ [] }) c.in_ok-declared_as.ensures
    ∙ ap (λ o. option_map_or (λ sort. record draft { interfaces = draft.interfaces ++ declared_as c.args.words.now sort ∷ [] }) o draft) c.in-Some.ensures
