use Rattle.std.proofs.Common.{suc, sym, subst}
use Rattle.cycle_sim.specs.Sims.{SimValue}
use Rattle.lane_sim.specs.LaneSims.{IsEdge}
use Rattle.simulations.specs.Benches.{IsSetUp, IsUnderWay}
use Rattle.simulations.specs.Cycles.{IsTold, IsEvaluated, run_with}
use Rattle.simulations.specs.Value.{value_with}
use Rattle.simulations.proofs.simulation.Simulation.end_cycle.Goals as goal

pub end_cycle-requires : goal.end_cycle-requires
end_cycle-requires c = subst (λ (sim : SimValue). IsTold (value_with sim c.args.self.now.bench)) (sym c.plain.ensures) c.requires

pub returns-clause-under_way : goal.returns-clause-under_way
returns-clause-under_way c = λ plan scenario run k set left is.
    let sim = c.args.self.now.sim in
    let bench = c.args.self.now.bench in
    let edge : IsEdge sim c.advance.new.self = record { netlist = c.advance.ensures.netlist; steps = c.advance.ensures.steps; stands = c.advance.ensures.stands } in
    (subst (λ (s : SimValue). IsSetUp plan scenario s.netlist → IsEvaluated plan scenario run k (value_with s bench) → IsEdge s c.advance.new.self
    → IsUnderWay plan scenario (run_with run k (value_with s bench)) (suc k) (value_with c.advance.new.self c.end_cycle.new.self)) c.plain.ensures
    (λ set is edge. c.end_cycle.ensures plan scenario run k c.advance.new.self set left is edge)) set is edge
