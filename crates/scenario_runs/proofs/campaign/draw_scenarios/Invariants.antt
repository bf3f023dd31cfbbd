use Rattle.std.proofs.Common.{◌≡◌, ◌≤◌}
use Rattle.scenario_runs.specs.Campaigns.{lane_scenario}
use Rattle.scenario_runs.proofs.CampaignLemmas.{AllFitPlan, singles}
use Rattle.scenario_runs.proofs.campaign.draw_scenarios.Given as goal

abbrev pub invariant-loop-lane : goal.invariant-loop-lane
invariant-loop-lane l = record {
  low : l.lane ≤ 8;
  drawn : l.scenarios.items ≡ singles (lane_scenario l.plan l.number) l.lane;
  fit : AllFitPlan l.plan l.scenarios.items;
}
