use Rattle.mm_select.proofs.places.+repeat.Given as goal

abbrev pub decreases-repeat : goal.decreases-repeat
decreases-repeat l = l.times
