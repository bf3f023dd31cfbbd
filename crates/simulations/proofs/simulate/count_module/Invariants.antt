use Rattle.std.proofs.Common.{◌-◌, ◌*◌}
use Rattle.benches.specs.Counting.{HaveRoom}
use Rattle.simulations.specs.Value.{value_of}
use Rattle.simulations.specs.Runs.{CountsSoFar}
use Rattle.simulations.proofs.simulate.count_module.Given as goal

abbrev pub invariant-cycles : goal.invariant-cycles
invariant-cycles l = record {
  so_far : CountsSoFar l.plan l.scenario l.fn.module l.counter (value_of l.simulation) l.counts;
  room : HaveRoom (64 * (l.end - l.counter)) l.counts;
}
