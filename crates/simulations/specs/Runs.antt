-- How far a simulation has come.
use Rattle.std.specs.Prelude.{◌≡◌, ℕ, List, Option, Bool}
use Rattle.histories.specs.History.{before}
use Rattle.link_rules.specs.Plans.{PlanTable}
use Rattle.netlist.specs.Netlists.{Netlist}
use Rattle.netlist.specs.Runs.{Run}
use Rattle.scenario_tables.specs.declared.scenario.Scenario.{Scenario}
use Rattle.trace_lines.specs.declared.counts.Counts.{Counts}
use Rattle.trace_lines.specs.Counted.{counts_before}
use Rattle.trace_lines.specs.Told.{told_in}
use Rattle.cycle_sim.specs.Sims.{SimValue}
use Rattle.cycle_sim.specs.Standing.{StandsFor}
use Rattle.simulated_runs.specs.Simulated.{IsSimulated}
use Rattle.simulations.specs.Benches.{BenchValue, IsSetUp, IsUnderWay}
use Rattle.simulations.specs.Traces.{run_ends}
use Rattle.simulations.specs.Written.{Holds}

-- the lines of the cycles of a run so far are written, or a part of them
pub record TellsSoFar (plan : PlanTable) (scenario : Scenario) (netlist : Netlist) (c : ℕ) (bench : BenchValue) (whole : Bool)
    (held : Option (List ℕ)) (first : ℕ) (holds : Option (List ℕ)) (faults : ℕ) : Type 0 where
  pub run : Run
  pub netlist_is : bench.sim.netlist ≡ netlist
  pub set : IsSetUp plan scenario bench.sim.netlist
  pub under_way : IsUnderWay plan scenario run c bench
  pub holding : Holds whole held first holds faults (before (told_in (run_ends plan bench.sim.netlist run)) c)

-- what was done in them is counted
pub record CountsSoFar (plan : PlanTable) (scenario : Scenario) (netlist : Netlist) (c : ℕ) (bench : BenchValue)
    (counts : Counts) : Type 0 where
  pub run : Run
  pub netlist_is : bench.sim.netlist ≡ netlist
  pub set : IsSetUp plan scenario bench.sim.netlist
  pub under_way : IsUnderWay plan scenario run c bench
  pub counted : counts ≡ counts_before (run_ends plan bench.sim.netlist run) c

abbrev pub no_counts : Counts
no_counts = record { taken = 0; answered = 0; delivered = 0; dropped = 0 }

-- the counts are those of a simulation of a scenario on a module, and the simulator stands behind its last cycle
pub record IsCountedRun (plan : PlanTable) (scenario : Scenario) (netlist : Netlist) (sim : SimValue)
    (counts : Counts) : Type 0 where
  pub run : Run
  pub simulated : IsSimulated plan scenario netlist run scenario.cycles
  pub stands : StandsFor sim run scenario.cycles
  pub counted : counts ≡ counts_before (run_ends plan netlist run) scenario.cycles
