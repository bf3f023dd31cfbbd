-- Benches over the lanes of a module.
use Rattle.std.specs.Prelude.{◌≡◌, ◌*◌, ◌-◌, ℕ, List, length, slice_get, Some}
use Rattle.link_rules.specs.Plans.{PlanTable}
use Rattle.netlist.specs.Netlists.{Netlist}
use Rattle.netlist.specs.Runs.{Run}
use Rattle.cycle_sim.specs.Sims.{SimValue}
use Rattle.cycle_sim.specs.Standing.{StandsFor}
use Rattle.lane_sim.specs.LaneSims.{LanesValue, lane_of}
use Rattle.scenario_tables.specs.declared.scenario.Scenario.{Scenario}
use Rattle.benches.specs.Counting.{HaveRoom}
use Rattle.simulations.specs.Benches.{BenchValue, IsSetUp, IsUnderWay}
use Rattle.simulations.specs.Runs.{CountsSoFar, no_counts}
use Rattle.simulations.specs.Value.{value_with}
use Rattle.simulations.specs.declared.campaigns.lane_bench.LaneBench.{LaneBench}

-- a bench with the simulator of its lane
abbrev pub value_in : LanesValue → ℕ → LaneBench → BenchValue
value_in lanes j lane = value_with (lane_of lanes j) lane.bench

-- this holds of each lane's
abbrev pub EachLane : (ℕ → LaneBench → Type 0) → List LaneBench → Type 0
EachLane P benches = (j : ℕ) (lane : LaneBench) → slice_get benches j ≡ Some lane → P j lane

-- each lane's becomes another
abbrev pub EachBecomes : (ℕ → LaneBench → LaneBench → Type 0) → List LaneBench → List LaneBench → Type 0
EachBecomes R old new =
    (j : ℕ) (before after : LaneBench) → slice_get old j ≡ Some before → slice_get new j ≡ Some after → R j before after

-- a lane's bench before the first cycle of its scenario
pub record IsFirstBench (plan : PlanTable) (scenario : Scenario) (netlist : Netlist) (lane : LaneBench) : Type 0 where
  pub set : IsSetUp plan scenario netlist
  pub under_way : (sim : SimValue) (run : Run) → StandsFor sim run 0 → IsUnderWay plan scenario run 0 (value_with sim lane.bench)
  pub counts : lane.counts ≡ no_counts

-- these are those of scenarios
pub record AreFirstBenches (plan : PlanTable) (scenarios : List Scenario) (netlist : Netlist)
    (benches : List LaneBench) : Type 0 where
  pub count : length benches ≡ length scenarios
  pub each : (j : ℕ) (scenario : Scenario) (lane : LaneBench) → slice_get scenarios j ≡ Some scenario
      → slice_get benches j ≡ Some lane → IsFirstBench plan scenario netlist lane

-- what was done in a lane in the cycles so far is counted
pub record IsLaneSoFar (plan : PlanTable) (scenario : Scenario) (cycles c : ℕ) (lanes : LanesValue) (j : ℕ)
    (lane : LaneBench) : Type 0 where
  pub cycles_are : scenario.cycles ≡ cycles
  pub so_far : CountsSoFar plan scenario lanes.netlist c (value_in lanes j lane) lane.counts
  pub room : HaveRoom (64 * (cycles - c)) lane.counts

-- and so it is in all eight, each with its scenario
pub record LanesSoFar (plan : PlanTable) (scenarios : List Scenario) (cycles c : ℕ) (lanes : LanesValue)
    (benches : List LaneBench) : Type 0 where
  pub count : length benches ≡ 8
  pub scenario_count : length scenarios ≡ 8
  pub each : (j : ℕ) (scenario : Scenario) (lane : LaneBench) → slice_get scenarios j ≡ Some scenario
      → slice_get benches j ≡ Some lane → IsLaneSoFar plan scenario cycles c lanes j lane
