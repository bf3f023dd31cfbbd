use Rattle.std.proofs.Common.{◌++◌}
use Rattle.std.specs.Prelude.{codes}
use Rattle.workload_systems.specs.Texts.{line_text}
use Rattle.workload_systems.specs.Components.{digit}
use Rattle.workload_systems.specs.Systems.{stream_line}
use Rattle.workload_systems.proofs.Writing.{word_then}
use Rattle.workload_systems.proofs.systems.put_stream_connection.Goals as goal

pub returns : goal.returns
unfolding line_text stream_line
returns c = word_then _ (codes "add_connection") _ _ _ c.in_ok-put_word.ensures (word_then _ (codes "s" ++ digit c.args.k ++ codes ".o") _ _ _ c.in_ok-put_word-2.ensures c.in_ok-put_last.ensures)
