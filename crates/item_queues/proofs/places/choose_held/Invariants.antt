use Rattle.std.proofs.Common.{◌+◌, take}
use Rattle.item_queues.proofs.Shifts.{ItemShown}
use Rattle.item_queues.proofs.places.choose_held.Given as goal

abbrev pub invariant-loop-k : goal.invariant-loop-k
invariant-loop-k g l = ItemShown l.fn.builder l.builder l.count l.first (take l.k l.rest) l.shown (g.row.N + 2) l.k
