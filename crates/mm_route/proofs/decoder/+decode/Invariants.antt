use Rattle.std.proofs.Common.{length}
use Rattle.mm_route.proofs.decoder.+decode.Given as goal

abbrev pub decreases-decode : goal.decreases-decode
decreases-decode l = length l.later.now
