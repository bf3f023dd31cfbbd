use Rattle.std.proofs.Common.{◌≡◌, ◌++◌, ◌∷◌, [], List, ℕ, false, set, sym, ap, ◌∙◌, subst}
use Rattle.std.specs.Prelude.{is_some}
use Rattle.component_scripts.specs.Component.{with_role}
use Rattle.script_words.specs.Names.{place_of}
use Rattle.script_words.specs.Words.{text_at}
use Rattle.component_scripts.specs.declared.component.DeclaredInterface.{DeclaredInterface}
use Rattle.component_scripts.proofs.ComponentDraftLemmas.{IsNamedAt, shown, IsComponentDraft-set, port_is_new, role_is_new, port_added, port_alone}
use Rattle.component_scripts.proofs.component_draft.ComponentDraft.state_port.Goals as goal

pub add-requires : goal.add-requires
add-requires c =
    subst (λ n. is_some (place_of c.self.inside.ports n) ≡ false) (sym c.text.ensures) (port_is_new (shown c.self.inside) c.args.words.now (rw (← c.self.view_is) at c.requires))

pub with_role-requires : goal.with_role-requires
with_role-requires c =
    let at : IsNamedAt c.self.inside.names (shown c.self.inside) (text_at c.args.words.now 1) c.in-Some.k c.index_mut.result.now =
    record { all = c.self.invariant.all; stands = ap (place_of c.self.inside.names) (sym c.text-2.ensures) ∙ sym c.in-Some.ensures; there = c.index_mut.ensures.value } in
    role_is_new c.self.inside.names (shown c.self.inside) c.args.words.now c.in-Some.k c.index_mut.result.now at (rw (← c.self.view_is) at c.requires)

pub invariant_of-self-in-Some : goal.invariant_of-self-in-Some
invariant_of-self-in-Some c = IsComponentDraft-set c.self.inside.names c.self.inside.type_name c.self.inside.interfaces.items c.in-Some.k c.index_mut.result.now c.with_role.new.declared c.self.invariant c.index_mut.ensures.value c.with_role.ensures.name

pub returns-in-Some : goal.returns-in-Some
returns-in-Some c =
    let at : IsNamedAt c.self.inside.names (shown c.self.inside) (text_at c.args.words.now 1) c.in-Some.k c.index_mut.result.now =
    record { all = c.self.invariant.all; stands = ap (place_of c.self.inside.names) (sym c.text-2.ensures) ∙ sym c.in-Some.ensures; there = c.index_mut.ensures.value } in
    let ports : c.add.new.self ≡ c.self.inside.ports ++ text_at c.args.words.now 2 ∷ [] = c.in_ok-add.ensures.ok ∙ ap (λ n. c.self.inside.ports ++ n ∷ []) c.text.ensures in
    rw (← c.self.view_is)
    (ap (λ (d : DeclaredInterface). record { type_name = c.self.inside.type_name; interfaces = set c.self.inside.interfaces.items c.in-Some.k d; ports = c.add.new.self }) c.with_role.ensures.same
    ∙ ap (λ (ps : List (List ℕ)). record { type_name = c.self.inside.type_name; interfaces = set c.self.inside.interfaces.items c.in-Some.k (with_role c.index_mut.result.now c.args.words.now); ports = ps }) ports
    ∙ sym (port_added c.self.inside.names (shown c.self.inside) c.args.words.now c.in-Some.k c.index_mut.result.now at))

pub returns-in_default : goal.returns-in_default
returns-in_default c =
    let ports : c.add.new.self ≡ c.self.inside.ports ++ text_at c.args.words.now 2 ∷ [] = c.in_ok-add.ensures.ok ∙ ap (λ n. c.self.inside.ports ++ n ∷ []) c.text.ensures in
    rw (← c.self.view_is)
    (ap (λ (ps : List (List ℕ)). record (shown c.self.inside) { ports = ps }) ports
    ∙ sym (port_alone c.self.inside.names (shown c.self.inside) c.args.words.now c.self.invariant.all (ap (place_of c.self.inside.names) (sym c.text-2.ensures) ∙ sym c.in_default.ensures)))
