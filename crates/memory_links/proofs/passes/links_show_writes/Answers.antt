use Rattle.memory_links.proofs.CutParts.{cut_shows_writes}
use Rattle.memory_links.proofs.Handing.{select_shows_writes}
use Rattle.memory_links.proofs.passes.links_show_writes.Goals as goal

pub returns-clause-select : goal.returns-clause-select
returns-clause-select c = λ target up down many room offsets plan deep run end fit legal k h.
    select_shows_writes (λ narrow wide target span may beat lies. c.beat_is_selected.ensures narrow wide target span may beat lies) target up down many room offsets plan deep run end fit legal k h

pub returns-clause-cut : goal.returns-clause-cut
returns-clause-cut c = cut_shows_writes
