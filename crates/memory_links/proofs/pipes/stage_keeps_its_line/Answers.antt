use Rattle.memory_links.proofs.StagePipe.{stage_is_pipe}
use Rattle.memory_links.proofs.pipes.stage_keeps_its_line.Goals as goal

pub returns : goal.returns
returns c = λ stage above_tag below_tag runs tags some system agent end.
    stage_is_pipe (record { link = c.stage_is_a_link.ensures; rank = c.stage_has_rank.ensures; later = c.stage_is_later.ensures; beats = c.transfers_of_beats.ensures })
    stage.depth stage.shape stage.sides.commands_above stage.sides.commands_below stage.sides.answers_above stage.sides.answers_below stage.queue runs above_tag below_tag tags system agent some end
