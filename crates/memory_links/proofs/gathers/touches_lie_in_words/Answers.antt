use Rattle.memory_links.proofs.Touching.{touches_are_cuts, lie_below}
use Rattle.memory_links.proofs.gathers.touches_lie_in_words.Goals as goal

pub returns-clause-plan : goal.returns-clause-plan
returns-clause-plan c = touches_are_cuts

pub returns-clause-lie : goal.returns-clause-lie
returns-clause-lie c = λ many up down state end wide plan run fit enables whole. lie_below many up down state plan run end fit enables wide whole
