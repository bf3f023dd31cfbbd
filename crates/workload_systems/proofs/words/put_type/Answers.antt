use Rattle.std.specs.Prelude.{codes}
use Rattle.workload_systems.specs.Texts.{line_text}
use Rattle.workload_systems.specs.Components.{type_name}
use Rattle.workload_systems.proofs.Writing.{word_then}
use Rattle.workload_systems.proofs.words.put_type.Goals as goal

pub returns : goal.returns
unfolding line_text type_name
returns c = word_then _ (codes "set_module_property") _ _ _ c.in_ok-put_word.ensures (word_then _ (codes "NAME") _ _ _ c.in_ok-put_word-2.ensures (c.in_ok-put_last.ensures))
