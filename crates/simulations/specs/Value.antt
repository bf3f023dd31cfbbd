-- The parts of a bench, as the definitions speak of it.
use Rattle.cycle_sim.specs.Sims.{SimValue}
use Rattle.simulations.specs.declared.bench.Bench.{Bench}
use Rattle.simulations.specs.declared.simulation.Simulation.{Simulation}
use Rattle.simulations.specs.Benches.{BenchValue}

-- a bench with the simulator that it drives
abbrev pub value_with : SimValue → Bench → BenchValue
value_with sim bench =
    record { sim = sim; row = bench.row; hosts = bench.hosts.items; agents = bench.agents.items; streams = bench.streams.items }

abbrev pub value_of : Simulation → BenchValue
value_of simulation = value_with simulation.sim simulation.bench
