use Rattle.scenario_runs.proofs.CampaignLemmas.{is_campaign}
use Rattle.scenario_runs.proofs.campaign.prepare_campaign.Goals as goal

pub returns-in-Ok-clause-campaign : goal.returns-in-Ok-clause-campaign
returns-in-Ok-clause-campaign c =
    is_campaign c.args.files.now c.args.number c.in_ok-plan.plan c.in-Ok.campaign c.in_ok-plan.ensures.accepted c.in-Ok.ensures.plan c.in-Ok.ensures.number c.in-Ok.ensures.can_run
