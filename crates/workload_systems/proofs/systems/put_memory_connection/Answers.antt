use Rattle.workload_systems.specs.Systems.{host_end, agent_end, memory_lines}
use Rattle.workload_systems.proofs.Writing.{line_then, one_line, joins_line}
use Rattle.workload_systems.proofs.systems.put_memory_connection.Goals as goal

pub returns : goal.returns
unfolding memory_lines
returns c =
    let first = joins_line c.args.text.now (host_end c.args.i) (agent_end c.args.j) _ _ _ c.in_ok-put_word.ensures c.in_ok-put_word-2.ensures c.in_ok-put_last.ensures in
    line_then _ _ _ _ _ first (line_then _ _ _ _ _ c.in_ok-put_parameter.ensures (one_line _ _ _ c.in_ok-put_parameter-2.ensures))
