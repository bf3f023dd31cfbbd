use Rattle.std.proofs.Common.{◌≡◌, List, ℕ, sym, ap, ◌∙◌, subst}
use Rattle.std.specs.Prelude.{codes}
use Rattle.component_scripts.specs.Library.{clock_source_table}
use Rattle.system_tables.specs.declared.tables.InterfaceTable.{InterfaceTable}
use Rattle.component_scripts.specs.Tables.{IsComponent}
use Rattle.component_scripts.proofs.types.BuiltInLemmas.{clock_source_is_component}
use Rattle.component_scripts.proofs.types.library.clock_source.Goals as goal

pub new-requires-clause-sound : goal.new-requires-clause-sound
new-requires-clause-sound c =
    let same : clock_source_table ≡ record { name = c.in_ok-name.name; place = record { file = 0; line = 0; byte = 0 }; interfaces = c.in_ok-names.field-0.interfaces.items } =
    sym (ap (λ (n : List ℕ). record { name = n; place = record { file = 0; line = 0; byte = 0 }; interfaces = c.in_ok-names.field-0.interfaces.items }) c.in_ok-name.ensures
    ∙ ap (λ (l : List InterfaceTable). record { name = codes "clock_source"; place = record { file = 0; line = 0; byte = 0 }; interfaces = l }) c.in_ok-names.ensures.interfaces) in
    subst IsComponent same clock_source_is_component
