use Rattle.std.proofs.Common.{◌+◌, ◌*◌, length}
use Rattle.pruned_netlists.proofs.Needs.{IsMarking, unmarked}
use Rattle.pruned_netlists.proofs.marking.needed_nets.Given as goal

abbrev pub invariant-loop-net : goal.invariant-loop-net
invariant-loop-net l = IsMarking l.module l.marks.items l.pending.items

abbrev pub decreases-loop-net : goal.decreases-loop-net
decreases-loop-net l = 5 * unmarked l.marks.items + length l.pending.items
