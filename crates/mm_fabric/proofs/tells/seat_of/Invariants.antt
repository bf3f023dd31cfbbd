use Rattle.std.proofs.Common.{◌≡◌, drop}
use Rattle.mm_fabric.specs.Fabrics.{seat_of}
use Rattle.mm_fabric.proofs.tells.seat_of.Given as goal

abbrev pub invariant-loop-seat : goal.invariant-loop-seat
invariant-loop-seat l = seat_of l.host l.seats ≡ seat_of l.host (drop l.seat-index l.seats)
