use Rattle.std.proofs.Common.{le_refl}
use Rattle.memory_links.proofs.DropWords.{words_apart, words_are_owed, quiet_below}
use Rattle.memory_links.proofs.drops.drop_owes_its_words.Goals as goal

pub returns-clause-apart : goal.returns-clause-apart
returns-clause-apart c = λ target room up down state end plan run legal owed. words_apart target room up down state end plan run legal owed

pub returns-clause-owed : goal.returns-clause-owed
returns-clause-owed c = λ target room up down state end plan run legal owed. words_are_owed target room up down state end plan run legal owed

pub returns-clause-quiet : goal.returns-clause-quiet
returns-clause-quiet c = λ target room up down state end plan run k low legal owed answered. quiet_below target room up down state k plan run legal owed k (le_refl k) answered
