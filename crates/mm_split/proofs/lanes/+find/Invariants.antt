use Rattle.mm_split.proofs.lanes.+find.Given as goal

abbrev pub decreases-find : goal.decreases-find
decreases-find l = l.count
