use Rattle.memory_links.proofs.CutParts.{cutting}
use Rattle.memory_links.proofs.CutStraight.{cut_is_straight}
use Rattle.memory_links.proofs.bursts.cut_is_straight.Goals as goal

pub returns : goal.returns
returns c = λ target reach longest up down state end plan run. cut_is_straight target up down end (cutting target reach longest up down state plan run end)
