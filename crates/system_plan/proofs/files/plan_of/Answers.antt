use Rattle.std.proofs.Common.{◌≡◌, ◌⊎◌}
use Rattle.std.proofs.lemmas.Result.{IfOk-weaker, IfErr-weaker, MatchResult-from_both}
use Rattle.system_plan.specs.declared.faults.Refusal.TheVariants.{NoMemory}
use Rattle.system_plan.specs.Plans.{IsPlanned, IsCause}
use Rattle.system_plan.proofs.PlanLemmas.{accepted-unrefused, only_memory, only_this, planned-accepted}
use Rattle.system_plan.proofs.ScriptLemmas.{Readings}
use Rattle.system_plan.proofs.SystemLemmas.{system_once}
use Rattle.system_plan.proofs.files.plan_of.Goals as goal

readings : goal.After-judged → Readings
readings c = record { one = c.no_two_readings.ensures; clean = c.spelled_or_faulty.ensures.never_both }

pub returns-clause-only_plan : goal.returns-clause-only_plan
returns-clause-only_plan c = λ accepted.
    MatchResult-from_both c.judged.result (λ plan. plan.system ≡ accepted.system) (λ answer. answer ≡ NoMemory)
    (IfOk-weaker c.judged.result (IsPlanned c.args.files.now) (λ plan. plan.system ≡ accepted.system)
    (λ plan planned. system_once (readings c) c.args.files.now plan.system accepted.system planned.stated accepted.stated) c.judged.ensures.accepted)
    (IfErr-weaker c.judged.result (IsCause c.args.files.now) (λ answer. answer ≡ NoMemory)
    (λ answer cause. only_memory (readings c) c.args.files.now answer cause accepted) c.judged.ensures.refused)

pub returns-clause-only_refusal : goal.returns-clause-only_refusal
returns-clause-only_refusal c = λ refusal refused.
    MatchResult-from_both c.judged.result (λ _. ⊥) (λ answer. (answer ≡ refusal) ⊎ (answer ≡ NoMemory))
    (IfOk-weaker c.judged.result (IsPlanned c.args.files.now) (λ _. ⊥)
    (λ plan planned. accepted-unrefused (readings c) c.args.files.now (planned-accepted c.args.files.now plan planned) refusal refused) c.judged.ensures.accepted)
    (IfErr-weaker c.judged.result (IsCause c.args.files.now) (λ answer. (answer ≡ refusal) ⊎ (answer ≡ NoMemory))
    (λ answer cause. only_this (readings c) c.args.files.now answer refusal cause refused) c.judged.ensures.refused)
