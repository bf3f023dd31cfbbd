use Rattle.st_mux.proofs.split.+lead_bit.Given as goal

abbrev pub decreases-lead_bit : goal.decreases-lead_bit
decreases-lead_bit l = l.bits
