use Rattle.std.proofs.Common.{◌++◌}
use Rattle.std.specs.Prelude.{codes}
use Rattle.workload_systems.specs.Texts.{line_text}
use Rattle.workload_systems.specs.Systems.{parameter, host_end, agent_end}
use Rattle.workload_systems.proofs.Writing.{word_then}
use Rattle.workload_systems.proofs.systems.put_parameter.Goals as goal

pub returns : goal.returns
unfolding line_text parameter
returns c = word_then _ (codes "set_connection_parameter_value") _ _ _ c.in_ok-put_word.ensures (word_then _ (host_end c.args.i ++ codes "/" ++ agent_end c.args.j) _ _ _ c.in_ok-put_word-2.ensures (word_then _ c.args.name.now _ _ _ c.in_ok-put_word-3.ensures (c.in_ok-put_last.ensures)))
