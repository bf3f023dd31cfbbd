use Rattle.packet_bytes.proofs.commands.Command.+enables_below.Given as goal

abbrev pub decreases-enables_below : goal.decreases-enables_below
decreases-enables_below l = l.lanes
