use Rattle.std.proofs.Common.{◌-◌}
use Rattle.mm_arbiter.proofs.pick.+pick_seat.Given as goal

abbrev pub decreases-pick_seat : goal.decreases-pick_seat
decreases-pick_seat l = l.to - l.from
