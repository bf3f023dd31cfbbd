use Rattle.net_parts.proofs.counts.+count_high.Given as goal

abbrev pub decreases-count_high : goal.decreases-count_high
decreases-count_high l = l.count
