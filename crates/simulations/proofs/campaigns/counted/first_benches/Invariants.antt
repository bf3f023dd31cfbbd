use Rattle.simulations.proofs.campaigns.Begun.{AreBegun}
use Rattle.simulations.proofs.campaigns.counted.first_benches.Given as goal

abbrev pub invariant-scenarios : goal.invariant-scenarios
invariant-scenarios l = AreBegun l.plan l.scenarios l.module l.scenario-index l.benches.items
