use Rattle.std.proofs.Common.{◌/◌, ◌%◌, ap}
use Rattle.stand_ins.specs.ByteLaws.{byte_shift}
use Rattle.stand_ins.proofs.memory.byte_at.Goals as goal

pub returns : goal.returns
returns c = ap (λ n. c.args.word / n % 256) (byte_shift c.args.lane)
