use Rattle.cycle_sim.proofs.Steps.{AreInputsTaken}
use Rattle.cycle_sim.proofs.nets.take_inputs.Given as goal

abbrev pub invariant-loop-net : goal.invariant-loop-net
invariant-loop-net l = AreInputsTaken l.module l.inputs l.initial.nets l.nets l.initial.stale l.stale l.net
