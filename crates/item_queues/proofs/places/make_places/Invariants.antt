use Rattle.std.proofs.Common.{◌≡◌, length, take}
use Rattle.item_queues.proofs.Shifts.{PlacesMade}
use Rattle.item_queues.proofs.places.make_places.Given as goal

abbrev pub invariant-loop-k : goal.invariant-loop-k
invariant-loop-k g l = PlacesMade l.fn.builder l.builder l.like g.row.N (take l.k l.made) l.k × (length l.made ≡ 3)
