use Rattle.std.proofs.Common.{◌≡◌, Some, set, sym, ap, ◌∙◌, arith}
use Rattle.system_scripts.specs.System.{joint_place}
use Rattle.script_words.specs.Commands.{parameter_named}
use Rattle.script_words.specs.Words.{text_at}
use Rattle.script_words.specs.declared.system.joints.Joint.{Joint}
use Rattle.system_scripts.proofs.SystemDraftLemmas.{shown, IsSetAt, joint_place-within, parameter_not_exceeds, parameter_stated, ends_and_kind, ends_and_kind-with_number, IsSystemDraft-set}
use Rattle.system_scripts.proofs.system_draft.SystemDraft.state_parameter.Goals as goal

pub index_mut-requires : goal.index_mut-requires
index_mut-requires c =
    let stands : joint_place c.args.library.now (shown c.self.inside) (text_at c.args.words.now 1) ≡ Some c.in-Some.k = ap (joint_place c.args.library.now (shown c.self.inside)) (sym c.text.ensures) ∙ sym (rw (← c.self.view_is) at c.in-Some.ensures) in
    omega (arith, joint_place-within c.args.library.now (shown c.self.inside) (text_at c.args.words.now 1) c.in-Some.k stands)

pub set_number-requires : goal.set_number-requires
set_number-requires c =
    let at : IsSetAt c.args.library.now (shown c.self.inside) c.args.words.now c.in-Some.k c.index_mut.result.now c.in-Some-parameter_named.parameter =
    record {
      stands = ap (joint_place c.args.library.now (shown c.self.inside)) (sym c.text.ensures) ∙ sym (rw (← c.self.view_is) at c.in-Some.ensures);
      there = c.index_mut.ensures.value;
      named = ap parameter_named (sym c.text-in-Some.ensures) ∙ sym c.in-Some-parameter_named.ensures;
    } in
    parameter_not_exceeds c.args.library.now (shown c.self.inside) c.args.words.now c.in-Some.k c.index_mut.result.now c.in-Some-parameter_named.parameter at (rw (← c.self.view_is) at c.requires)

pub invariant_of-self : goal.invariant_of-self
invariant_of-self c =
    IsSystemDraft-set c.self.inside.names c.self.inside.links c.self.inside.taken c.self.inside.instances.items c.self.inside.joints.items c.in-Some.k c.index_mut.result.now c.set_number.new.joint c.self.invariant c.index_mut.ensures.value
    (ap ends_and_kind c.set_number.ensures ∙ ends_and_kind-with_number c.args.words.now c.in-Some-parameter_named.parameter c.index_mut.result.now)

pub returns-in-Some-parameter_named : goal.returns-in-Some-parameter_named
returns-in-Some-parameter_named c =
    let at : IsSetAt c.args.library.now (shown c.self.inside) c.args.words.now c.in-Some.k c.index_mut.result.now c.in-Some-parameter_named.parameter =
    record {
      stands = ap (joint_place c.args.library.now (shown c.self.inside)) (sym c.text.ensures) ∙ sym (rw (← c.self.view_is) at c.in-Some.ensures);
      there = c.index_mut.ensures.value;
      named = ap parameter_named (sym c.text-in-Some.ensures) ∙ sym c.in-Some-parameter_named.ensures;
    } in
    rw (← c.self.view_is)
    (ap (λ (j : Joint). record (shown c.self.inside) { joints = set c.self.inside.joints.items c.in-Some.k j }) c.set_number.ensures
    ∙ sym (parameter_stated c.args.library.now (shown c.self.inside) c.args.words.now c.in-Some.k c.index_mut.result.now c.in-Some-parameter_named.parameter at))
