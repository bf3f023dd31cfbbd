use Rattle.st_mux.proofs.select.+select_bit.Given as goal

abbrev pub decreases-select_bit : goal.decreases-select_bit
decreases-select_bit l = l.bits
