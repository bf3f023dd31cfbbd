use Rattle.waves.proofs.LawLemmas.{one_reading}
use Rattle.waves.proofs.laws.no_two_readings.Goals as goal

pub returns : goal.returns
returns c = one_reading
