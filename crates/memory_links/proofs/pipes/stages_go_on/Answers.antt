use Rattle.memory_links.proofs.StageRows.{stages_go_on}
use Rattle.memory_links.proofs.pipes.stages_go_on.Goals as goal

pub returns : goal.returns
returns c = stages_go_on (record { link = c.stage_is_a_link.ensures; rank = c.stage_has_rank.ensures; later = c.stage_is_later.ensures; beats = c.transfers_of_beats.ensures })
