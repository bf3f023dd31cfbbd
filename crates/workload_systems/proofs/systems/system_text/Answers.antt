use Rattle.workload_systems.specs.Systems.{system_lines}
use Rattle.workload_systems.proofs.Writing.{from_empty, line_then, lines_then, creates_line}
use Rattle.workload_systems.proofs.systems.system_text.Goals as goal

pub returns : goal.returns
unfolding system_lines
returns c =
    let first = creates_line _ _ _ c.in_ok-put_word.ensures c.in_ok-put_last.ensures in
    let hosts = line_then _ _ _ _ _ first c.in_ok-put_hosts.ensures in
    let agents = lines_then _ _ _ _ _ hosts c.in_ok-put_agents.ensures in
    let sources = lines_then _ _ _ _ _ agents c.in_ok-put_sources.ensures in
    let sinks = lines_then _ _ _ _ _ sources c.in_ok-put_sinks.ensures in
    let links = lines_then _ _ _ _ _ sinks c.in_ok-put_memory_connections.ensures in
    from_empty _ _ _ c.new-text.ensures (lines_then _ _ _ _ _ links c.in_ok-put_stream_connections.ensures)
