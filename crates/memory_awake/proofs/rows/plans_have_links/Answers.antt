use Rattle.memory_awake.proofs.PlanLinks.{links_suit}
use Rattle.memory_awake.proofs.rows.plans_have_links.Goals as goal

pub returns : goal.returns
returns c = links_suit
