use Rattle.std.proofs.Common.{◌≡◌, map, take, drop}
use Rattle.std.specs.Prelude.{All}
use Rattle.component_scripts.specs.Component.{interface_table, interface_refusal}
use Rattle.script_words.specs.Judgements.{first_some}
use Rattle.component_scripts.specs.Tables.{IsSound}
use Rattle.component_scripts.proofs.component_draft.ComponentDraft.tables_of.Given as goal

abbrev pub invariant-loop-declared : goal.invariant-loop-declared
invariant-loop-declared l = record {
  tables : l.tables.items ≡ map interface_table (take l.declared-index l.interfaces);
  accepted : first_some (interface_refusal l.self.interfaces) l.interfaces ≡ first_some (interface_refusal l.self.interfaces) (drop l.declared-index l.interfaces);
  sound : All IsSound l.tables.items;
}
