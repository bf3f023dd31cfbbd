use Rattle.memory_links.proofs.SelectPacks.{select_packs}
use Rattle.memory_links.proofs.packs.selectors_pack.Goals as goal

pub returns : goal.returns
returns c = λ target up down many room offsets end plan deep run fit legal.
    select_packs (λ narrow wide target span may beat lies. c.beat_is_selected.ensures narrow wide target span may beat lies) target up down many room offsets end plan deep run fit legal
