use Rattle.std.proofs.Common.{◌≡◌, ◌++◌, List, ℕ, length, length-append, slice_index_or, refl, ap, subst, ◌∙◌, arith}
use Rattle.histories.specs.History.{before}
use Rattle.simulations.specs.Runs.{no_counts}
use Rattle.scenario_runs.specs.Campaigns.{campaign_end}
use Rattle.scenario_runs.proofs.CampaignLemmas.{lines_of_lanes, one_more_line}
use Rattle.scenario_runs.proofs.campaign.campaign_text.Goals as goal

pub loop-lane-preserved : goal.loop-lane-preserved
loop-lane-preserved c =
    let long = length-append c.loop-lane.text.items c.lane_line.result in
    let new = ap (λ (bytes : List ℕ). length bytes) c.put_line.ensures in
    let short = c.lane_line.ensures.short in
    let before = c.loop-lane.invariant.short in
    record {
      low = omega (arith, c.loop-lane-test.true);
      text = one_more_line c.args.counts.now c.loop-lane.lane (slice_index_or c.args.counts.now c.loop-lane.lane no_counts) c.loop-lane.text.items c.put_line.new.text.items c.lane_line.result c.loop-lane.invariant.text c.put_line.ensures
          c.lane_line.ensures.text refl;
      short = omega (arith, long, new, short, before);
    }

pub returns : goal.returns
returns c =
    let end : c.loop-lane.lane ≡ 8 = omega (arith, c.loop-lane-test.false, c.loop-lane.invariant.low) in
    c.put_line-2.ensures ∙ ap (λ (line : List ℕ). c.loop-lane.text.items ++ line) c.end_line.ensures.text
    ∙ ap (λ (lines : List ℕ). lines ++ campaign_end c.args.number) (c.loop-lane.invariant.text ∙ ap (before (lines_of_lanes c.args.counts.now)) end)
