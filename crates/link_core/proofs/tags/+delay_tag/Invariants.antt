use Rattle.link_core.proofs.tags.+delay_tag.Given as goal

abbrev pub decreases-delay_tag : goal.decreases-delay_tag
decreases-delay_tag l = l.count
