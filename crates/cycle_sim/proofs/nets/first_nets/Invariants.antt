use Rattle.cycle_sim.proofs.Next.{AreFirst}
use Rattle.cycle_sim.proofs.nets.first_nets.Given as goal

abbrev pub invariant-loop-net : goal.invariant-loop-net
invariant-loop-net l = AreFirst l.module.lines l.nets.items l.net
