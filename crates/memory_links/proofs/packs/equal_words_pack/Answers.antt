use Rattle.memory_links.proofs.CutParts.{cutting}
use Rattle.memory_links.proofs.EqualPacks.{wire_packs, cutter_packs}
use Rattle.memory_links.proofs.packs.equal_words_pack.Goals as goal

pub returns-clause-wire : goal.returns-clause-wire
returns-clause-wire c = wire_packs

pub returns-clause-cut : goal.returns-clause-cut
returns-clause-cut c = λ target reach longest up down state end times plan run legal some word span. cutter_packs target up down end (cutting target reach longest up down state plan run end legal) times some word span
