use Rattle.component_scripts.proofs.ComponentDraftLemmas.{are_named}
use Rattle.component_scripts.proofs.component_draft.ComponentDraft.interface_tables.Goals as goal

pub tables_of-requires : goal.tables_of-requires
tables_of-requires c = rw c.as_slice.ensures.value (are_named _ _ _ c.self.invariant)
