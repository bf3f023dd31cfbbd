use Rattle.st_mux.proofs.select.+select_packet.Given as goal

abbrev pub decreases-select_packet : goal.decreases-select_packet
decreases-select_packet l = l.bits
