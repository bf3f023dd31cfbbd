use Rattle.std.proofs.Common.{sym, ap, ◌∙◌, map, subst}
use Rattle.std.specs.Prelude.{Option, IfSome, IsTrue}
use Rattle.tcl_words.specs.declared.words.Word.{Word}
use Rattle.system_tables.specs.Names.{is_name}
use Rattle.std.specs.List.{IsDistinct}
use Rattle.std.specs.Str.{bytes_eq}
use Rattle.system_tables.specs.declared.tables.InterfaceTable.{InterfaceTable}
use Rattle.component_scripts.specs.Tables.{HasNamesOf}
use Rattle.component_scripts.proofs.ComponentDraftLemmas.{names_of-tables}
use Rattle.component_scripts.proofs.component_draft.ComponentDraft.with_tables.Goals as goal

pub new-requires-clause-sound : goal.new-requires-clause-sound
new-requires-clause-sound c =
    let tables = rw (← c.self.view_is) at c.requires.tables in
    let names : HasNamesOf c.self.inside.names c.args.interfaces.items =
    c.self.invariant.all ∙ sym (ap (map (λ (t : InterfaceTable). t.name)) tables ∙ names_of-tables c.self.inside.interfaces.items) in
    record {
      name = (let P : Option Word → Type 0 = λ o. IfSome o (λ w. IsTrue (is_name w.text)) in subst P c.unwrap-name.ensures c.self.invariant.type_is_name);
      interfaces = c.requires.sound;
      distinct = subst (IsDistinct bytes_eq) names c.distinct.ensures;
    }

pub new-requires-clause-names : goal.new-requires-clause-names
new-requires-clause-names c =
    let tables = rw (← c.self.view_is) at c.requires.tables in
    c.self.invariant.all ∙ sym (ap (map (λ (t : InterfaceTable). t.name)) tables ∙ names_of-tables c.self.inside.interfaces.items)
