use Rattle.std.proofs.Common.{◌≡◌, ◌++◌, drop}
use Rattle.mm_fabric.specs.Rows.{told_seats}
use Rattle.mm_fabric.proofs.agents.seats_told.Given as goal

abbrev pub invariant-loop-k : goal.invariant-loop-k
invariant-loop-k l = l.made ++ told_seats (drop l.k l.seats) (drop l.k l.told) ≡ told_seats l.seats l.told
