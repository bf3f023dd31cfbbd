use Rattle.std.proofs.Common.{◌∙◌, refl}
use Rattle.component_scripts.specs.Component.{interface_table}
use Rattle.component_scripts.proofs.component_draft.table_of.Goals as goal

pub returns-clause-table : goal.returns-clause-table
unfolding interface_table
returns-clause-table c =
    let name = c.in_ok-name.ensures ∙ c.as_str.ensures in
    let clock = c.in_ok-clock.ensures ∙ c.as_str-2.ensures in
    rw (name, clock, c.kind.ensures, c.side.ensures, c.requires.known) refl
