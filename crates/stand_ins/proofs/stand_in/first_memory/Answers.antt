use Rattle.stand_ins.proofs.PlaceLemmas.{some_bytes, few_bytes}
use Rattle.stand_ins.proofs.stand_in.first_memory.Goals as goal

pub new-memory-requires : goal.new-memory-requires
new-memory-requires c = (some_bytes c.args.port.now.word_bytes c.requires.bounded.ports.word, few_bytes c.args.port.now.word_bytes c.requires.bounded.ports.word)
