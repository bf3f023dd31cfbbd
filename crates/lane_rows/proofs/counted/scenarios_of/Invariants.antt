use Rattle.std.proofs.Common.{◌≡◌, ◌≤◌, length}
use Rattle.std.specs.Prelude.{All}
use Rattle.scenario_tables.specs.declared.scenario.Scenario.{Scenario}
use Rattle.scenario_tables.specs.Scenarios.{IsScenario}
use Rattle.lane_rows.proofs.counted.scenarios_of.Given as goal

abbrev pub invariant-loop-lane : goal.invariant-loop-lane
invariant-loop-lane l = record {
  low : l.lane ≤ 8;
  count : length l.scenarios ≡ l.lane;
  fit : All (IsScenario l.plan.system) l.scenarios;
  cycles : All (λ (scenario : Scenario). scenario.cycles ≡ l.row.cycles) l.scenarios;
}
