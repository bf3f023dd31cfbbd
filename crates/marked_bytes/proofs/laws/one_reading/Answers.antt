use Rattle.marked_bytes.proofs.Readings.{one_reading}
use Rattle.marked_bytes.proofs.laws.one_reading.Goals as goal

pub returns : goal.returns
returns c = one_reading
