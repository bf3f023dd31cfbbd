use Rattle.std.proofs.Common.{length}
use Rattle.mm_route.proofs.back.+pick_wait.Given as goal

abbrev pub decreases-pick_wait : goal.decreases-pick_wait
decreases-pick_wait l = length l.backs.now
