use Rattle.cycle_sim.proofs.Orders.{AreTaken}
use Rattle.cycle_sim.proofs.nets.take_next.Given as goal

abbrev pub invariant-loop-place : goal.invariant-loop-place
invariant-loop-place l = AreTaken l.module l.registers l.changes l.count l.initial.nets l.nets l.initial.stale l.stale l.place
