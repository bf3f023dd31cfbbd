use Rattle.tcl_words.proofs.ScriptLaws.{one_reading}
use Rattle.tcl_words.proofs.laws.no_two_readings.Goals as goal

pub returns : goal.returns
returns c = one_reading
