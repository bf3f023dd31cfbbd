use Rattle.std.proofs.Common.{◌≡◌, List, IfOk, Some, length, slice_get, ap, subst, ◌∙◌}
use Rattle.scenario_tables.specs.declared.scenario.Scenario.{Scenario}
use Rattle.simulations.specs.Counted.{AreCountedRuns}
use Rattle.scenario_runs.specs.Campaigns.{lane_scenario}
use Rattle.scenario_runs.proofs.CampaignLemmas.{cycles_of_lanes, singles_length}
use Rattle.scenario_runs.proofs.campaign.counts_of.Goals as goal

pub count_lanes-requires-clause-count : goal.count_lanes-requires-clause-count
count_lanes-requires-clause-count c =
    ap (λ (s : List Scenario). length s) (c.as_slice.ensures.value ∙ c.in_ok-scenarios.ensures.drawn) ∙ singles_length (lane_scenario c.args.plan.now c.args.number) 8

pub count_lanes-requires-clause-scenarios : goal.count_lanes-requires-clause-scenarios
count_lanes-requires-clause-scenarios c = λ j scenario at.
    c.in_ok-scenarios.ensures.fit j scenario (subst (λ (s : List Scenario). slice_get s j ≡ Some scenario) c.as_slice.ensures.value at)

pub count_lanes-requires-clause-cycles : goal.count_lanes-requires-clause-cycles
count_lanes-requires-clause-cycles c = cycles_of_lanes c.args.plan.now c.args.number c.as_slice.result.now (c.as_slice.ensures.value ∙ c.in_ok-scenarios.ensures.drawn)

pub returns-clause-counted : goal.returns-clause-counted
returns-clause-counted c =
    subst (λ (s : List Scenario). IfOk c.count_lanes.result (AreCountedRuns c.args.plan.now s c.count_lanes.new.lanes)) (c.as_slice.ensures.value ∙ c.in_ok-scenarios.ensures.drawn) c.count_lanes.ensures.counted
