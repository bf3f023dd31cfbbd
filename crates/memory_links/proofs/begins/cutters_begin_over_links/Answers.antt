use Rattle.memory_links.proofs.CutParts.{cutting}
use Rattle.memory_links.proofs.CutStraight.{cut_begins}
use Rattle.memory_links.proofs.begins.cutters_begin_over_links.Goals as goal

pub returns : goal.returns
returns c = λ target reach longest up middle down state end few may_burst plan run legal owed below. cut_begins target up middle end (cutting target reach longest up middle state plan run end legal) owed few may_burst down below
