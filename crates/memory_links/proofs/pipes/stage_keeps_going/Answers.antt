use Rattle.memory_links.proofs.Stages.{stage_keeps_going}
use Rattle.memory_links.proofs.pipes.stage_keeps_going.Goals as goal

pub returns : goal.returns
returns c = λ stage runs deep ready target end legal legal_below.
    stage_keeps_going (record { link = c.stage_is_a_link.ensures; rank = c.stage_has_rank.ensures; later = c.stage_is_later.ensures; beats = c.transfers_of_beats.ensures })
    stage.depth stage.shape stage.sides.commands_above stage.sides.commands_below stage.sides.answers_above stage.sides.answers_below stage.queue runs deep ready target end legal legal_below
