use Rattle.std.proofs.Common.{◌-◌, length}
use Rattle.waves.proofs.Reading.{IsReading}
use Rattle.waves.proofs.whole.starts_of.Given as goal

abbrev pub invariant-lines : goal.invariant-lines
invariant-lines l = IsReading l.widths l.bytes l.from l.due l.at l.starts.items

abbrev pub decreases-lines : goal.decreases-lines
decreases-lines l = length l.bytes - l.at
