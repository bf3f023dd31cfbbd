use Rattle.std.proofs.Common.{◌∙◌}
use Rattle.stand_ins.proofs.PlaceLemmas.{word_is_at}
use Rattle.stand_ins.proofs.places.word_at.Goals as goal

pub returns : goal.returns
returns c = c.word.ensures ∙ word_is_at c.args.port.now c.args.memory.now c.args.address c.word_number.result c.requires.bytes c.word_number.ensures.places
