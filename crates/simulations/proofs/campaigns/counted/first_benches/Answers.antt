use Rattle.std.proofs.Common.{◌≡◌, Some, refl, sym, ap, ◌∙◌, arith}
use Rattle.std.proofs.lemmas.Option.{slice_get-get_or}
use Rattle.scenario_tables.specs.declared.scenario.Scenario.{Scenario}
use Rattle.simulations.proofs.campaigns.Begun.{all_begun, none_begun, one_more_begun}
use Rattle.simulations.proofs.campaigns.counted.first_benches.Goals as goal

pub scenarios-init : goal.scenarios-init
scenarios-init c = none_begun c.args.plan.now c.args.scenarios.now c.args.module.now c.new-benches.result.items c.new-benches.ensures.items

pub new-requires-clause-scenario : goal.new-requires-clause-scenario
new-requires-clause-scenario c =
    c.requires.scenarios c.scenarios.scenario-index c.scenario-item.result
    (slice_get-get_or c.args.scenarios.now c.scenarios.scenario-index c.scenario-item.result c.scenarios-test.true ∙ ap (λ (s : Scenario). Some s) (sym c.scenario-item.is))

pub scenarios-preserved : goal.scenarios-preserved
scenarios-preserved c =
    let at = slice_get-get_or c.args.scenarios.now c.scenarios.scenario-index c.scenario-item.result c.scenarios-test.true ∙ ap (λ (s : Scenario). Some s) (sym c.scenario-item.is) in
    one_more_begun c.args.plan.now c.args.scenarios.now c.args.module.now c.scenarios.scenario-index c.scenarios.benches.items c.push.new.self.items _ c.scenario-item.result c.scenarios.invariant at
    (record { set = c.in_ok-bench.ensures.set; under_way = c.in_ok-bench.ensures.under_way; counts = refl }) c.in_ok-push.ensures.items

pub returns : goal.returns
returns c = all_begun c.args.plan.now c.args.scenarios.now c.args.module.now c.scenarios.scenario-index c.scenarios.benches.items c.scenarios.invariant (omega (arith, c.scenarios-test.false))
