use Rattle.std.proofs.Common.{◌-◌}
use Rattle.std.specs.Vec.{vec_capacity, vec_len}
use Rattle.stand_ins.proofs.Bytes.{blank}
use Rattle.stand_ins.proofs.memory.Memory.new.Goals as goal

pub returns-clause-contents : goal.returns-clause-contents
returns-clause-contents c = blank (record { words = c.new.result.items; word_bytes = c.args.word_bytes; room = vec_capacity c.new.result - vec_len c.new.result }) c.new.ensures.items
