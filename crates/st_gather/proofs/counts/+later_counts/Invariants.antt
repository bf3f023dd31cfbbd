use Rattle.st_gather.proofs.counts.+later_counts.Given as goal

abbrev pub decreases-later_counts : goal.decreases-later_counts
decreases-later_counts l = l.channels
