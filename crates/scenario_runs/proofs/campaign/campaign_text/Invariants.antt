use Rattle.std.proofs.Common.{◌≡◌, ◌*◌, ◌≤◌, length, slice_index_or}
use Rattle.histories.specs.History.{before}
use Rattle.simulations.specs.Runs.{no_counts}
use Rattle.scenario_runs.specs.Campaigns.{lane_line}
use Rattle.scenario_runs.proofs.campaign.campaign_text.Given as goal

abbrev pub invariant-loop-lane : goal.invariant-loop-lane
invariant-loop-lane l = record {
  low : l.lane ≤ 8;
  text : l.text.items ≡ before (λ lane. lane_line lane (slice_index_or l.counts lane no_counts)) l.lane;
  short : length l.text.items ≤ 200 * l.lane;
}
