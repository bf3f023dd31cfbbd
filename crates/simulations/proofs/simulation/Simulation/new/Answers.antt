use Rattle.std.proofs.Common.{sym, subst}
use Rattle.simulations.specs.Benches.{IsSetUp}
use Rattle.simulations.proofs.simulation.Simulation.new.Goals as goal

pub returns-clause-set : goal.returns-clause-set
returns-clause-set c = subst (IsSetUp c.args.plan.now c.args.scenario.now) (sym c.in_ok-sim.ensures.netlist) c.in_ok-bench.ensures.set

pub returns-clause-under_way : goal.returns-clause-under_way
returns-clause-under_way c = λ run. c.in_ok-bench.ensures.under_way c.in_ok-sim.sim run (c.in_ok-sim.ensures.stands run)
