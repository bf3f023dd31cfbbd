use Rattle.std.proofs.lemmas.Result.{err_from_is_err_and}
use Rattle.system_plan.specs.Plans.{IsAccepted, IsRefusedBy}
use Rattle.avalon_top.proofs.AnswerLemmas.{AreJudged, refused_files, done_files}
use Rattle.avalon_top.proofs.answer.check.Goals as goal

pub returns-in_err-plan-clause-stops : goal.returns-in_err-plan-clause-stops
returns-in_err-plan-clause-stops c =
    let files = c.args.files.now in
    let law = c.accepted_or_refused.ensures in
    let judged : AreJudged (IsAccepted files) (IsRefusedBy files) = record { either = law.either files c.requires.some; never_both = λ r accepted. law.never_both files accepted r; one_fault = law.one_refusal files } in
    let stops = refused_files files c.in_err-plan.field-0.0 judged c.in_err-plan.ensures.refused in
    let handed = err_from_is_err_and c.from_residual.result c.from_residual.ensures.1 in
    rw (handed.1, handed.2) stops

pub returns-clause-result : goal.returns-clause-result
returns-clause-result c =
    let files = c.args.files.now in
    let e = c.in_ok-plan.ensures in
    let law = c.accepted_or_refused.ensures in
    let judged : AreJudged (IsAccepted files) (IsRefusedBy files) = record { either = law.either files c.requires.some; never_both = λ r accepted. law.never_both files accepted r; one_fault = law.one_refusal files } in
    record {
      is_text = record { plan = c.in_ok-plan.plan; planned = e.accepted; holds = c.in_ok-map_text.ensures };
      only = done_files files c.in_ok-plan.plan judged e.accepted;
    }
