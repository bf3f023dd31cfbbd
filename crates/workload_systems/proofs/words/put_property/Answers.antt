use Rattle.std.specs.Prelude.{codes}
use Rattle.workload_systems.specs.Texts.{line_text}
use Rattle.workload_systems.specs.Components.{property}
use Rattle.workload_systems.proofs.Writing.{word_then}
use Rattle.workload_systems.proofs.words.put_property.Goals as goal

pub returns : goal.returns
unfolding line_text property
returns c = word_then _ (codes "set_interface_property") _ _ _ c.in_ok-put_word.ensures (word_then _ c.args.interface.now _ _ _ c.in_ok-put_word-2.ensures (word_then _ c.args.name.now _ _ _ c.in_ok-put_word-3.ensures (c.in_ok-put_last.ensures)))
