use Rattle.mm_split.proofs.lanes.+touched_mask.Given as goal

abbrev pub decreases-touched_mask : goal.decreases-touched_mask
decreases-touched_mask l = l.count
