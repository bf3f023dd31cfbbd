use Rattle.mm_agent.proofs.answers.+delay_for.Given as goal

abbrev pub decreases-delay_for : goal.decreases-delay_for
decreases-delay_for l = l.count
