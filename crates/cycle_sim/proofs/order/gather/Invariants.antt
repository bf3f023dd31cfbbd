use Rattle.cycle_sim.proofs.Orders.{AreGathered}
use Rattle.cycle_sim.proofs.order.gather.Given as goal

abbrev pub invariant-loop-register : goal.invariant-loop-register
invariant-loop-register l = AreGathered l.registers l.nets l.changes l.count l.register-index
