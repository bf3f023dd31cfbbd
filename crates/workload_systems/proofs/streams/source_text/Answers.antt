use Rattle.workload_systems.specs.Components.{source_lines}
use Rattle.workload_systems.proofs.Writing.{line_then, from_empty}
use Rattle.workload_systems.proofs.streams.source_text.Goals as goal

pub returns : goal.returns
unfolding source_lines
returns c =
    from_empty _ _ _ c.new-text.ensures
    (line_then _ _ _ _ _ c.in_ok-put_type.ensures (line_then _ _ _ _ _ c.in_ok-put_interface.ensures (line_then _ _ _ _ _ c.in_ok-put_property.ensures (line_then _ _ _ _ _ c.in_ok-put_port.ensures c.in_ok-put_beat_ports.ensures))))
