use Rattle.mm_gather.proofs.lanes.+pushed_to.Given as goal

abbrev pub decreases-pushed_to : goal.decreases-pushed_to
decreases-pushed_to l = l.bits
