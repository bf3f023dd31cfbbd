use Rattle.memory_links.proofs.CutStraight.{cut_begins}
use Rattle.memory_links.proofs.CutParts.{cutting}
use Rattle.memory_links.proofs.GatherBegins.{gather_begins}
use Rattle.memory_links.proofs.gathers.packed_reads_begin.Goals as goal

pub returns-clause-cut : goal.returns-clause-cut
returns-clause-cut c = λ target reach longest up middle down state end few may_burst plan run legal owed below. cut_begins target up middle end (cutting target reach longest up middle state plan run end legal) owed few may_burst down below

pub returns-clause-gather : goal.returns-clause-gather
returns-clause-gather c = λ target up down many room state end plan deep run lie legal owed.
    gather_begins (λ narrow wide target span may beat lies. c.beat_is_selected.ensures narrow wide target span may beat lies) target up down many room state plan deep run end lie legal owed
