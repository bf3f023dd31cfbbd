use Rattle.memory_machines.proofs.Pieces.{beat_is_pieces}
use Rattle.memory_machines.proofs.machines.beat_is_pieces.Goals as goal

pub returns : goal.returns
returns c = λ wide narrow target span words same fits beat. beat_is_pieces wide narrow target span words same fits beat
