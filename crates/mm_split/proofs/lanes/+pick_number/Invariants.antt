use Rattle.mm_split.proofs.lanes.+pick_number.Given as goal

abbrev pub decreases-pick_number : goal.decreases-pick_number
decreases-pick_number l = l.count
