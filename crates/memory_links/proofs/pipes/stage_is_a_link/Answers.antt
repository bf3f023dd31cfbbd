use Rattle.std.proofs.Common.{arith}
use Rattle.memory_links.proofs.Stages.{stage_is_link}
use Rattle.memory_links.proofs.pipes.stage_is_a_link.Goals as goal

pub returns : goal.returns
returns c = λ pipe runs target end some.
    stage_is_link (record { link = c.stage_is_a_link.ensures; rank = c.stage_has_rank.ensures; later = c.stage_is_later.ensures; beats = c.transfers_of_beats.ensures })
    target pipe.shape (pipe.commands 0) (pipe.commands 1) (pipe.answers 0) (pipe.answers 1) (pipe.queue 0) (runs.stage 0 (omega arith)) (λ k few. runs.opens 0 k (omega arith) few) some c.link_is_a_row.ensures end
