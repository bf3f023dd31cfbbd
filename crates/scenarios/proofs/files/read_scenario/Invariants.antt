use Rattle.std.proofs.Common.{length}
use Rattle.scenarios.proofs.Reading.{IsReadTo}
use Rattle.scenarios.proofs.files.read_scenario.Given as goal

abbrev pub invariant-lines : goal.invariant-lines
invariant-lines l = IsReadTo l.plan.system l.bytes l.number l.so_far l.lines

abbrev pub decreases-lines : goal.decreases-lines
decreases-lines l = length l.lines
