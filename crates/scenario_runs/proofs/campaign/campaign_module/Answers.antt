use Rattle.std.proofs.Common.{◌≡◌, ◌∙◌}
use Rattle.scenario_runs.proofs.CampaignLemmas.{told_in_part, told_whole}
use Rattle.scenario_runs.proofs.campaign.campaign_module.Goals as goal

pub returns-then-put_all-clause-ends : goal.returns-then-put_all-clause-ends
returns-then-put_all-clause-ends g c =
    told_whole c.args.plan.now c.args.number c.counts_of.new.lanes c.in-Ok.counts c.as_slice.result.now (g.K.Sink.held c.args.sink.now) (g.K.Sink.held c.put_all.new.sink) c.in-Ok.ensures.counted
    (c.as_slice.ensures.value ∙ c.campaign_text.ensures) c.if-put_all.ensures.all

pub returns-else-put_all-clause-ends : goal.returns-else-put_all-clause-ends
returns-else-put_all-clause-ends g c =
    told_in_part c.args.plan.now c.args.number c.counts_of.new.lanes c.in-Ok.counts c.as_slice.result.now (g.K.Sink.held c.args.sink.now) (g.K.Sink.held c.put_all.new.sink)
    (g.K.Sink.faults c.args.sink.now) (g.K.Sink.faults c.put_all.new.sink) c.in-Ok.ensures.counted (c.as_slice.ensures.value ∙ c.campaign_text.ensures) c.if-put_all.ensures.part c.if-put_all.ensures.rose
