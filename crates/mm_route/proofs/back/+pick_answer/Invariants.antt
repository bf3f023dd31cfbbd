use Rattle.std.proofs.Common.{length}
use Rattle.mm_route.proofs.back.+pick_answer.Given as goal

abbrev pub decreases-pick_answer : goal.decreases-pick_answer
decreases-pick_answer l = length l.backs.now
