use Rattle.memory_links.proofs.GatherLink.{gather_is_link}
use Rattle.memory_links.proofs.gathers.gather_is_a_link.Goals as goal

pub returns : goal.returns
returns c = λ target up down many room state end plan deep run lie.
    gather_is_link (λ narrow wide target span may beat lies. c.beat_is_selected.ensures narrow wide target span may beat lies) c.wire_is_a_row.ensures.row target up down many room state end plan deep run lie
