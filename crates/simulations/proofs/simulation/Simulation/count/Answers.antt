use Rattle.std.proofs.Common.{◌≡◌, sym, subst}
use Rattle.cycle_sim.specs.Sims.{SimValue}
use Rattle.trace_lines.specs.Sums.{with_counts}
use Rattle.simulations.specs.Cycles.{IsTold, counts_of}
use Rattle.simulations.specs.Value.{value_with}
use Rattle.simulations.proofs.simulation.Simulation.count.Goals as goal

pub count-requires-clause-told : goal.count-requires-clause-told
count-requires-clause-told c = subst (λ (sim : SimValue). IsTold (value_with sim c.args.self.now.bench)) (sym c.plain.ensures) c.requires.told

pub returns-clause-value : goal.returns-clause-value
returns-clause-value c = subst (λ (sim : SimValue). c.count.result ≡ with_counts c.args.counts (counts_of (value_with sim c.args.self.now.bench))) c.plain.ensures c.count.ensures.value
