use Rattle.memory_links.proofs.CutInStep.{cut_in_step}
use Rattle.memory_links.proofs.CutParts.{cutting}
use Rattle.memory_links.proofs.bursts.cut_goes_in_step.Goals as goal

pub returns : goal.returns
returns c = λ target reach longest up down state end plan run legal owed. cut_in_step target up down end (cutting target reach longest up down state plan run end legal) owed
