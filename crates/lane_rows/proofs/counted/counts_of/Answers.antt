use Rattle.std.proofs.Common.{◌≡◌, List, Some, length, slice_get, ap, subst, ◌∙◌}
use Rattle.std.proofs.lemmas.Option.{get_or_from_slice_get, slice_get_within}
use Rattle.scenario_tables.specs.declared.scenario.Scenario.{Scenario}
use Rattle.scenario_tables.specs.Scenarios.{IsScenario}
use Rattle.lane_rows.proofs.counted.counts_of.Goals as goal

pub count_lanes-requires-clause-count : goal.count_lanes-requires-clause-count
count_lanes-requires-clause-count c = ap (λ (scenarios : List Scenario). length scenarios) c.as_slice.ensures ∙ c.in_ok-scenarios.ensures.count

pub count_lanes-requires-clause-scenarios : goal.count_lanes-requires-clause-scenarios
count_lanes-requires-clause-scenarios c = λ j scenario at.
    let there = subst (λ (scenarios : List Scenario). slice_get scenarios j ≡ Some scenario) c.as_slice.ensures at in
    subst (λ (s : Scenario). IsScenario c.in_ok-plan.plan.system s) (get_or_from_slice_get _ j scenario scenario there) (c.in_ok-scenarios.ensures.fit j scenario (slice_get_within _ j scenario there))

pub count_lanes-requires-clause-cycles : goal.count_lanes-requires-clause-cycles
count_lanes-requires-clause-cycles c = λ j scenario at.
    let there = subst (λ (scenarios : List Scenario). slice_get scenarios j ≡ Some scenario) c.as_slice.ensures at in
    subst (λ (s : Scenario). s.cycles ≡ c.args.row.now.cycles) (get_or_from_slice_get _ j scenario scenario there)
    (c.in_ok-scenarios.ensures.cycles j scenario (slice_get_within _ j scenario there))
