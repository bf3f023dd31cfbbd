use Rattle.memory_links.proofs.StageRows.{pipe_line, pipe_shows, pipe_few}
use Rattle.memory_links.proofs.pipes.pipe_keeps_its_line.Goals as goal

pub returns-clause-line : goal.returns-clause-line
returns-clause-line c =
    pipe_line (record { link = c.stage_is_a_link.ensures; rank = c.stage_has_rank.ensures; later = c.stage_is_later.ensures; beats = c.transfers_of_beats.ensures })
    c.registers_are_a_pipe.ensures.none c.registers_are_a_pipe.ensures.two

pub returns-clause-showing : goal.returns-clause-showing
returns-clause-showing c =
    pipe_shows (record { link = c.stage_is_a_link.ensures; rank = c.stage_has_rank.ensures; later = c.stage_is_later.ensures; beats = c.transfers_of_beats.ensures })

pub returns-clause-few : goal.returns-clause-few
returns-clause-few c =
    pipe_few (record { link = c.stage_is_a_link.ensures; rank = c.stage_has_rank.ensures; later = c.stage_is_later.ensures; beats = c.transfers_of_beats.ensures })
