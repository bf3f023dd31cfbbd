use Rattle.packet_bytes.proofs.commands.+put_lanes.Given as goal

abbrev pub decreases-put_lanes : goal.decreases-put_lanes
decreases-put_lanes l = l.lanes
