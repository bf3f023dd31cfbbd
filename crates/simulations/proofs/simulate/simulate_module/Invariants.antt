use Rattle.simulations.specs.Value.{value_of}
use Rattle.simulations.specs.Runs.{TellsSoFar}
use Rattle.simulations.proofs.simulate.simulate_module.Given as goal

abbrev pub invariant-cycles : goal.invariant-cycles
invariant-cycles g l = TellsSoFar l.plan l.scenario l.fn.module l.cycle (value_of l.simulation) l.whole (g.K.Sink.held l.fn.sink) (g.K.Sink.faults l.fn.sink) (g.K.Sink.held l.sink) (g.K.Sink.faults l.sink)
