use Rattle.std.proofs.Common.{◌≡◌, ◌∷◌, [], ◌++◌, ℕ, List, ap, subst, ◌∙◌, arith}
use Rattle.scenario_tables.specs.declared.scenario.Scenario.{Scenario}
use Rattle.scenario_runs.specs.Campaigns.{lane_scenario}
use Rattle.scenario_runs.proofs.CampaignLemmas.{before_more, none_drawn, one_more_drawn, singles}
use Rattle.scenario_runs.proofs.campaign.draw_scenarios.Goals as goal

pub loop-lane-init : goal.loop-lane-init
loop-lane-init c = record { low = omega arith; drawn = c.new-scenarios.ensures.items; fit = none_drawn c.args.plan.now c.new-scenarios.result.items c.new-scenarios.ensures.items }

pub loop-lane-preserved : goal.loop-lane-preserved
loop-lane-preserved c =
    let more = c.in_ok-push.ensures.items in
    record {
      low = omega (arith, c.loop-lane-test.true);
      drawn = before_more (λ lane. lane_scenario c.args.plan.now c.args.number lane ∷ []) c.loop-lane.lane c.loop-lane.scenarios.items c.push.new.self.items c.loop-lane.invariant.drawn
          (more ∙ ap (λ (s : Scenario). c.loop-lane.scenarios.items ++ s ∷ []) c.in_ok-scenario.ensures.drawn);
      fit = one_more_drawn c.args.plan.now c.loop-lane.scenarios.items c.push.new.self.items c.in_ok-scenario.scenario c.loop-lane.invariant.fit c.in_ok-scenario.ensures.fits more;
    }

pub returns-clause-drawn : goal.returns-clause-drawn
returns-clause-drawn c =
    let end : c.loop-lane.lane ≡ 8 = omega (arith, c.loop-lane-test.false, c.loop-lane.invariant.low) in
    subst (λ (n : ℕ). c.loop-lane.scenarios.items ≡ singles (lane_scenario c.args.plan.now c.args.number) n) end c.loop-lane.invariant.drawn
