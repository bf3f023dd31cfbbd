-- What is counted of eight runs.
use Rattle.std.specs.Prelude.{◌≡◌, ℕ, List, length, slice_get, Some}
use Rattle.link_rules.specs.Plans.{PlanTable}
use Rattle.lane_sim.specs.LaneSims.{LanesValue, lane_of}
use Rattle.scenario_tables.specs.declared.scenario.Scenario.{Scenario}
use Rattle.trace_lines.specs.declared.counts.Counts.{Counts}
use Rattle.simulations.specs.Runs.{IsCountedRun}

-- in each lane the counts are those of a simulation of its scenario, behind whose last cycle the lane stands
pub record AreCountedRuns (plan : PlanTable) (scenarios : List Scenario) (lanes : LanesValue)
    (counts : List Counts) : Type 0 where
  pub count : length counts ≡ length scenarios
  pub each : (j : ℕ) (scenario : Scenario) (of : Counts) → slice_get scenarios j ≡ Some scenario → slice_get counts j ≡ Some of
      → IsCountedRun plan scenario lanes.netlist (lane_of lanes j) of
