use Rattle.std.proofs.Common.{length}
use Rattle.st_mux.proofs.first.+first_high.Given as goal

abbrev pub decreases-first_high : goal.decreases-first_high
decreases-first_high l = length l.nets.now
