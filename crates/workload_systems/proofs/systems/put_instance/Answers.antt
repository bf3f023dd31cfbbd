use Rattle.std.specs.Prelude.{codes}
use Rattle.workload_systems.specs.Texts.{line_text}
use Rattle.workload_systems.specs.Systems.{instance}
use Rattle.workload_systems.proofs.Writing.{word_then}
use Rattle.workload_systems.proofs.systems.put_instance.Goals as goal

pub returns : goal.returns
unfolding line_text instance
returns c = word_then _ (codes "add_instance") _ _ _ c.in_ok-put_word.ensures (word_then _ c.args.name.now _ _ _ c.in_ok-put_word-2.ensures (c.in_ok-put_last.ensures))
