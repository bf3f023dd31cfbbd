use Rattle.std.specs.Prelude.{codes}
use Rattle.workload_systems.specs.Texts.{line_text}
use Rattle.workload_systems.specs.Components.{interface}
use Rattle.workload_systems.proofs.Writing.{word_then}
use Rattle.workload_systems.proofs.words.put_interface.Goals as goal

pub returns : goal.returns
unfolding line_text interface
returns c = word_then _ (codes "add_interface") _ _ _ c.in_ok-put_word.ensures (word_then _ c.args.name.now _ _ _ c.in_ok-put_word-2.ensures (word_then _ c.args.kind.now _ _ _ c.in_ok-put_word-3.ensures (c.in_ok-put_last.ensures)))
