use Rattle.mm_split.proofs.gather.+fill_first.Given as goal

abbrev pub decreases-fill_first : goal.decreases-fill_first
decreases-fill_first l = l.count
