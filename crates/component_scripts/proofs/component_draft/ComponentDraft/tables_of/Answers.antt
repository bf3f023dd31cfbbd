use Rattle.std.proofs.Common.{◌≤◌, sym, ap, ◌∙◌, ◌++◌, ◌∷◌, [], length, map, take, take_all, refl, subst, arith}
use Rattle.std.specs.Prelude.{All, IsTrue}
use Rattle.system_tables.specs.Names.{is_name}
use Rattle.component_scripts.specs.declared.component.DeclaredInterface.{DeclaredInterface}
use Rattle.script_words.specs.Judgements.{first_some}
use Rattle.component_scripts.specs.Component.{interface_table, interface_refusal}
use Rattle.component_scripts.specs.Tables.{IsSound}
use Rattle.std.proofs.lemmas.List.{at_drop_all, map_more}
use Rattle.std.proofs.lemmas.List.Elements.{All-push}
use Rattle.component_scripts.proofs.ComponentDraftLemmas.{first_some-more}
use Rattle.component_scripts.proofs.component_draft.ComponentDraft.tables_of.Goals as goal

pub loop-declared-preserved : goal.loop-declared-preserved
loop-declared-preserved c = record {
  tables = c.in_ok-push.ensures.items ∙ ap (λ ts. ts ++ c.in_ok-table.field-0 ∷ []) c.loop-declared.invariant.tables ∙ ap (λ t. map interface_table (take c.loop-declared.declared-index c.args.interfaces.now) ++ t ∷ []) (c.in_ok-table.ensures.table ∙ ap interface_table c.declared-item.is) ∙ sym (map_more interface_table c.args.interfaces.now c.loop-declared.declared-index c.declared-item.result c.loop-declared-test.true);
  accepted = c.loop-declared.invariant.accepted ∙ first_some-more (interface_refusal c.args.self.now.interfaces) c.args.interfaces.now c.loop-declared.declared-index c.declared-item.result c.loop-declared-test.true c.declared-item.is c.in_ok-table.ensures.accepted;
  sound = rw c.in_ok-push.ensures.items (All-push IsSound _ _ c.loop-declared.invariant.sound c.in_ok-table.ensures.sound);
}

pub loop-declared-init : goal.loop-declared-init
loop-declared-init c =
    let none = c.new-tables.ensures.items in
    record { tables = none; accepted = refl; sound = subst (All IsSound) (sym none) (λ k d less. absurd (omega (arith, less))) }

pub table-requires : goal.table-requires
table-requires c =
    subst (λ (declared : DeclaredInterface). IsTrue (is_name declared.name)) (sym c.declared-item.is) (c.requires c.loop-declared.declared-index c.declared-item.result c.loop-declared-test.true)

pub returns-clause-accepted : goal.returns-clause-accepted
returns-clause-accepted c =
    let interfaces = c.args.interfaces.now in
    let past : length interfaces ≤ c.loop-declared.declared-index = omega arith in
    c.loop-declared.invariant.accepted ∙ at_drop_all (first_some (interface_refusal c.args.self.now.interfaces)) interfaces c.loop-declared.declared-index past

pub returns-clause-tables : goal.returns-clause-tables
returns-clause-tables c =
    let interfaces = c.args.interfaces.now in
    let past : length interfaces ≤ c.loop-declared.declared-index = omega arith in
    c.loop-declared.invariant.tables ∙ ap (map interface_table) (take_all c.loop-declared.declared-index interfaces past)

pub returns-clause-sound : goal.returns-clause-sound
returns-clause-sound c = c.loop-declared.invariant.sound
