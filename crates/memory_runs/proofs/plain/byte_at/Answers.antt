use Rattle.std.proofs.Common.{◌/◌, ◌%◌, ap}
use Rattle.memory_runs.proofs.Lanes.{byte_shift}
use Rattle.memory_runs.proofs.plain.byte_at.Goals as goal

pub returns : goal.returns
returns c = ap (λ n. c.args.word / n % 256) (byte_shift c.args.lane)
