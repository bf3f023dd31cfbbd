use Rattle.std.proofs.Common.{sym, ◌∙◌}
use Rattle.script_words.specs.Laws.{role_named-kind}
use Rattle.component_scripts.proofs.settings.with_role.Goals as goal

pub add_port-requires : goal.add_port-requires
add_port-requires c = role_named-kind c.kind.result _ c.in-Some.role (sym c.in-Some.ensures) ∙ c.kind.ensures
