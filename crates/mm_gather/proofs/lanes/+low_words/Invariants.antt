use Rattle.mm_gather.proofs.lanes.+low_words.Given as goal

abbrev pub decreases-low_words : goal.decreases-low_words
decreases-low_words l = l.bits
