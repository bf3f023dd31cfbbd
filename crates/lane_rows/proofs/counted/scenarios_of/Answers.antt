use Rattle.std.proofs.Common.{◌≡◌, ◌∷◌, [], List, length, length-append, ap, subst, sym, ◌∙◌, arith}
use Rattle.std.specs.Prelude.{All}
use Rattle.std.proofs.lemmas.List.Elements.{All-push}
use Rattle.scenario_tables.specs.declared.scenario.Scenario.{Scenario}
use Rattle.scenario_tables.specs.Scenarios.{IsScenario}
use Rattle.lane_rows.proofs.counted.scenarios_of.Goals as goal

pub loop-lane-init : goal.loop-lane-init
loop-lane-init c =
    let none = c.new-scenarios.ensures in
    record {
      low = omega arith;
      count = ap (λ (scenarios : List Scenario). length scenarios) none;
      fit = subst (All (IsScenario c.args.plan.now.system)) (sym none) (λ k d less. absurd (omega (arith, less)));
      cycles = subst (All (λ (scenario : Scenario). scenario.cycles ≡ c.args.row.now.cycles)) (sym none) (λ k d less. absurd (omega (arith, less)));
    }

pub loop-lane-preserved : goal.loop-lane-preserved
loop-lane-preserved c =
    let more = c.in_ok-push.ensures.ok in
    let longer = ap (λ (scenarios : List Scenario). length scenarios) more ∙ length-append c.loop-lane.scenarios (c.in_ok-scenario.scenario ∷ []) in
    record {
      low = omega (arith, c.loop-lane-test.true);
      count = omega (arith, longer, c.loop-lane.invariant.count);
      fit = rw more (All-push (IsScenario c.args.plan.now.system) _ _ c.loop-lane.invariant.fit c.in_ok-scenario.ensures.fits);
      cycles = rw more (All-push (λ (scenario : Scenario). scenario.cycles ≡ c.args.row.now.cycles) _ _ c.loop-lane.invariant.cycles c.in_ok-scenario.ensures.cycles);
    }

pub returns-clause-count : goal.returns-clause-count
returns-clause-count c =
    let end : c.loop-lane.lane ≡ 8 = omega (arith, c.loop-lane-test.false, c.loop-lane.invariant.low) in
    c.loop-lane.invariant.count ∙ end
