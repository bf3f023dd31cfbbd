use Rattle.std.proofs.Common.{IsTrue, sym, subst}
use Rattle.iface_roles.specs.Properties.{property_row, is_of}
use Rattle.script_words.specs.Laws.{property_named-kind}
use Rattle.component_scripts.proofs.settings.set_as.Goals as goal

pub set_to_number-requires-clause-known : goal.set_to_number-requires-clause-known
set_to_number-requires-clause-known c =
    subst (λ k. IsTrue (is_of (property_row c.in-Known.id).kinds k)) c.kind.ensures (property_named-kind c.kind.result _ c.in-Known.id (sym c.in-Known.ensures))
