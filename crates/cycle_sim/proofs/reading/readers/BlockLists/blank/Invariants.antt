use Rattle.std.proofs.Common.{◌≡◌, [], replicate}
use Rattle.cycle_sim.proofs.reading.readers.BlockLists.blank.Given as goal

abbrev pub invariant-lists : goal.invariant-lists
invariant-lists l = l.lists.items ≡ replicate l.counter []
