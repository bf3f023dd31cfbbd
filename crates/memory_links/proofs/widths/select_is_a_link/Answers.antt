use Rattle.memory_links.proofs.Selecting.{select_is_link}
use Rattle.memory_links.proofs.widths.select_is_a_link.Goals as goal

pub returns : goal.returns
returns c = λ target up down many room offsets end plan deep run fit.
    select_is_link (λ narrow wide target span may beat lies. c.beat_is_selected.ensures narrow wide target span may beat lies) c.wire_is_a_link.ensures c.link_is_a_row.ensures target up down many room offsets end plan deep run fit
