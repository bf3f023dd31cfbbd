use Rattle.cycle_sim.proofs.reading.RegisterLists.{AreRegistersTo}
use Rattle.cycle_sim.proofs.reading.registers.registers_of.Given as goal

abbrev pub invariant-loop-net : goal.invariant-loop-net
invariant-loop-net l = AreRegistersTo l.module.lines l.registers.items l.net
