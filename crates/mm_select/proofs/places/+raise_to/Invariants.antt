use Rattle.mm_select.proofs.places.+raise_to.Given as goal

abbrev pub decreases-raise_to : goal.decreases-raise_to
decreases-raise_to l = l.bits
