use Rattle.memory_links.proofs.StageSoon.{shows_soon}
use Rattle.memory_links.proofs.soon.stage_shows_soon.Goals as goal

pub returns : goal.returns
returns c = shows_soon (record { beats = c.transfers_of_beats.ensures; link = c.stage_is_a_link.ensures; rank = c.stage_has_rank.ensures; later = c.stage_is_later.ensures })
