-- What becomes of a lane's bench in a cycle.
use Rattle.std.specs.Prelude.{◌≡◌, ◌+◌, ◌<◌, ℕ, suc, true}
use Rattle.link_rules.specs.Plans.{PlanTable}
use Rattle.netlist.specs.Runs.{Run}
use Rattle.cycle_sim.specs.Sims.{SimValue}
use Rattle.lane_sim.specs.LaneSims.{IsEdge}
use Rattle.scenario_tables.specs.declared.scenario.Scenario.{Scenario}
use Rattle.trace_lines.specs.Sums.{with_counts}
use Rattle.benches.specs.Counting.{HaveRoom}
use Rattle.simulations.specs.Benches.{BenchValue, IsSetUp, IsUnderWay}
use Rattle.simulations.specs.Cycles.{IsShown, IsEvaluated, answered, counts_of, first_words, run_with, shown_first}
use Rattle.simulations.specs.Value.{value_with}
use Rattle.simulations.specs.declared.campaigns.lane_bench.LaneBench.{LaneBench}

-- its components show what they can before any command is known
pub record HasShown (before after : LaneBench) : Type 0 where
  pub counts : after.counts ≡ before.counts
  pub bench : (sim : SimValue) → value_with sim after.bench ≡ shown_first (value_with sim before.bench)

-- its agents answer the commands
pub record HasAnswered (sim : SimValue) (before after : LaneBench) : Type 0 where
  pub counts : after.counts ≡ before.counts
  pub bench : value_with sim after.bench ≡ answered (value_with sim before.bench)

-- what is done in the cycle is counted, and the cycle ends, as the simulator's does at the clock's edge
pub record HasEnded (sim : SimValue) (before after : LaneBench) : Type 0 where
  pub counts : after.counts ≡ with_counts before.counts (counts_of (value_with sim before.bench))
  pub room : (more : ℕ) → HaveRoom (64 + more) before.counts → HaveRoom more after.counts
  pub bench : (plan : PlanTable) (scenario : Scenario) (run : Run) (c : ℕ) (next : SimValue) → IsSetUp plan scenario sim.netlist
      → c < scenario.cycles → IsEvaluated plan scenario run c (value_with sim before.bench)
      → IsEdge sim next
      → IsUnderWay plan scenario (run_with run c (value_with sim before.bench)) (suc c) (value_with next after.bench)

-- a bench that was under way has its cycle evaluated before the commands were known
abbrev pub IsShownFrom : BenchValue → BenchValue → Type 0
IsShownFrom before after =
    (plan : PlanTable) (scenario : Scenario) (run : Run) (c : ℕ) → IsSetUp plan scenario before.sim.netlist
    → IsUnderWay plan scenario run c before
    → IsShown plan scenario run c first_words after

-- one that had has it evaluated
abbrev pub IsAnsweredFrom : BenchValue → BenchValue → Type 0
IsAnsweredFrom before after =
    (plan : PlanTable) (scenario : Scenario) (run : Run) (c : ℕ) → IsSetUp plan scenario before.sim.netlist → c < scenario.cycles
    → IsShown plan scenario run c first_words before
    → IsEvaluated plan scenario run c after

-- one that was under way has it evaluated
abbrev pub IsEvaluatedFrom : BenchValue → BenchValue → Type 0
IsEvaluatedFrom before after =
    (plan : PlanTable) (scenario : Scenario) (run : Run) (c : ℕ) → IsSetUp plan scenario before.sim.netlist → c < scenario.cycles
    → IsUnderWay plan scenario run c before
    → IsEvaluated plan scenario run c after
