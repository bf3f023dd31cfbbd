use Rattle.std.proofs.Common.{length}
use Rattle.net_parts.proofs.rows.+last_full.Given as goal

abbrev pub decreases-last_full : goal.decreases-last_full
decreases-last_full g l = length l.rest.now
