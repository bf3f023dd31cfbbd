use Rattle.memory_links.proofs.DropPrompt.{drop_is_straight}
use Rattle.memory_links.proofs.DropStraight.{in_step}
use Rattle.memory_links.proofs.drops.drop_is_straight.Goals as goal

pub returns-clause-straight : goal.returns-clause-straight
returns-clause-straight c = drop_is_straight

pub returns-clause-step : goal.returns-clause-step
returns-clause-step c = λ target room up down state end plan some run alike legal owed. in_step target room up down state end plan run legal alike owed some
