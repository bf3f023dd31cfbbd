use Rattle.std.proofs.Common.{refl}
use Rattle.system_plan.specs.Plans.{IsAccepted, IsRefusedBy}
use Rattle.avalon_top.proofs.AnswerLemmas.{AreJudged, campaign_stops, campaign_done}
use Rattle.avalon_top.proofs.campaign.campaign.Goals as goal

pub returns-in-Ok-clause-campaign : goal.returns-in-Ok-clause-campaign
returns-in-Ok-clause-campaign c =
    let files = c.args.files.now in
    let law = c.accepted_or_refused.ensures in
    let judged : AreJudged (IsAccepted files) (IsRefusedBy files) = record { either = law.either files c.requires.some; never_both = λ r accepted. law.never_both files accepted r; one_fault = law.one_refusal files } in
    let is = c.in-Ok.ensures.campaign in
    record { number = c.args.number; task_is = refl; ready = is; only = campaign_done c.args.number files c.in-Ok.campaign.plan judged is.planned }

pub returns-in-Err-clause-stops : goal.returns-in-Err-clause-stops
returns-in-Err-clause-stops c =
    let files = c.args.files.now in
    let law = c.accepted_or_refused.ensures in
    let judged : AreJudged (IsAccepted files) (IsRefusedBy files) = record { either = law.either files c.requires.some; never_both = λ r accepted. law.never_both files accepted r; one_fault = law.one_refusal files } in
    rw c.answer_of_system.ensures (campaign_stops c.args.number files c.in-Err.refusal judged c.in-Err.ensures.refused)
