use Rattle.std.proofs.Common.{length}
use Rattle.st_mux.proofs.first.+any_high.Given as goal

abbrev pub decreases-any_high : goal.decreases-any_high
decreases-any_high l = length l.nets.now
