use Rattle.pruned_netlists.specs.Numbers.{AreInputs}
use Rattle.pruned_netlists.proofs.marking.push_inputs.Given as goal

abbrev pub invariant-loop-net : goal.invariant-loop-net
invariant-loop-net l = AreInputs l.module l.net l.pending.items
