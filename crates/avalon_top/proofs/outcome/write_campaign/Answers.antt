use Rattle.avalon_top.proofs.OutcomeLemmas.{campaign_ends}
use Rattle.avalon_top.proofs.outcome.write_campaign.Goals as goal

pub returns : goal.returns
returns g c = record {
  ends = campaign_ends c.args.campaign c.campaign_module.new.lanes _ c.campaign_module.result c.campaign_module.ensures.netlist c.in_default.not-NoMemory c.campaign_module.ensures.ends;
  grows = c.campaign_module.ensures.grows;
  below = c.campaign_module.ensures.below;
}
