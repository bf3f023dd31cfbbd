use Rattle.mm_select.proofs.places.+take_place.Given as goal

abbrev pub decreases-take_place : goal.decreases-take_place
decreases-take_place l = l.bits
