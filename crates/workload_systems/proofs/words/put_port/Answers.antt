use Rattle.std.specs.Prelude.{codes}
use Rattle.workload_systems.specs.Texts.{line_text}
use Rattle.workload_systems.specs.Components.{port}
use Rattle.workload_systems.proofs.Writing.{word_then}
use Rattle.workload_systems.proofs.words.put_port.Goals as goal

pub returns : goal.returns
unfolding line_text port
returns c = word_then _ (codes "add_interface_port") _ _ _ c.in_ok-put_word.ensures (word_then _ c.args.interface.now _ _ _ c.in_ok-put_word-2.ensures (word_then _ c.args.role.now _ _ _ c.in_ok-put_word-3.ensures (word_then _ c.args.role.now _ _ _ c.in_ok-put_word-4.ensures (word_then _ c.args.direction.now _ _ _ c.in_ok-put_word-5.ensures (c.in_ok-put_last.ensures)))))
