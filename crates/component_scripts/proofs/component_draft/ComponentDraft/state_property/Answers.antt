use Rattle.std.proofs.Common.{set, sym, ap, ◌∙◌}
use Rattle.script_words.specs.Names.{place_of}
use Rattle.script_words.specs.Words.{text_at}
use Rattle.component_scripts.specs.declared.component.DeclaredInterface.{DeclaredInterface}
use Rattle.component_scripts.proofs.ComponentDraftLemmas.{IsNamedAt, shown, IsComponentDraft-set, property_not_outside, property_stated, property_unstated}
use Rattle.component_scripts.proofs.component_draft.ComponentDraft.state_property.Goals as goal

pub set_as-requires : goal.set_as-requires
set_as-requires c =
    let at : IsNamedAt c.self.inside.names (shown c.self.inside) (text_at c.args.words.now 1) c.in-Some.k c.index_mut.result.now =
    record { all = c.self.invariant.all; stands = ap (place_of c.self.inside.names) (sym c.text.ensures) ∙ sym c.in-Some.ensures; there = c.index_mut.ensures.value } in
    rw (c.text-in-Some.ensures, c.text-in-Some-2.ensures) (property_not_outside c.self.inside.names (shown c.self.inside) c.args.words.now c.in-Some.k c.index_mut.result.now at (rw (← c.self.view_is) at c.requires))

pub invariant_of-self : goal.invariant_of-self
invariant_of-self c = IsComponentDraft-set c.self.inside.names c.self.inside.type_name c.self.inside.interfaces.items c.in-Some.k c.index_mut.result.now c.set_as.new.declared c.self.invariant c.index_mut.ensures.value c.set_as.ensures.name

pub invariant_of-self-in_err-set_as : goal.invariant_of-self-in_err-set_as
invariant_of-self-in_err-set_as c = IsComponentDraft-set c.self.inside.names c.self.inside.type_name c.self.inside.interfaces.items c.in-Some.k c.index_mut.result.now c.set_as.new.declared c.self.invariant c.index_mut.ensures.value c.set_as.ensures.name

pub returns-in_ok-set_as : goal.returns-in_ok-set_as
returns-in_ok-set_as c =
    let at : IsNamedAt c.self.inside.names (shown c.self.inside) (text_at c.args.words.now 1) c.in-Some.k c.index_mut.result.now =
    record { all = c.self.invariant.all; stands = ap (place_of c.self.inside.names) (sym c.text.ensures) ∙ sym c.in-Some.ensures; there = c.index_mut.ensures.value } in
    let new = rw (c.text-in-Some.ensures, c.text-in-Some-2.ensures) at c.in_ok-set_as.ensures.ok in
    rw (← c.self.view_is)
    (ap (λ (d : DeclaredInterface). record (shown c.self.inside) { interfaces = set c.self.inside.interfaces.items c.in-Some.k d }) new
    ∙ sym (property_stated c.self.inside.names (shown c.self.inside) c.args.words.now c.in-Some.k c.index_mut.result.now at))

pub returns-in_default : goal.returns-in_default
returns-in_default c =
    rw (← c.self.view_is)
    (sym (property_unstated c.self.inside.names (shown c.self.inside) c.args.words.now c.self.invariant.all (ap (place_of c.self.inside.names) (sym c.text.ensures) ∙ sym c.in_default.ensures)))
