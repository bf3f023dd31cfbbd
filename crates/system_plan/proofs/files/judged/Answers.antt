use Rattle.std.proofs.Common.{◌≡◌}
use Rattle.std.proofs.lemmas.Result.{IfOk-weaker, IfErr-weaker}
use Rattle.link_rules.specs.Plans.{PlanTable, IsPlan}
use Rattle.system_plan.specs.Plans.{IsPlanned, IsSystemCause, IsCause}
use Rattle.system_plan.proofs.PlanLemmas.{IsPlanned-from_system, IsCause-from_system}
use Rattle.system_plan.proofs.files.judged.Goals as goal

pub returns-clause-accepted : goal.returns-clause-accepted
returns-clause-accepted c =
    let system = c.in_ok-system.system in
    IfOk-weaker c.plan_over.result (λ (plan : PlanTable). (plan.system ≡ system) × IsPlan plan) (IsPlanned c.args.files.now)
    (λ plan made. IsPlanned-from_system c.args.files.now system plan c.in_ok-system.ensures.accepted made.0 made.1) c.plan_over.ensures.accepted

pub returns-clause-refused : goal.returns-clause-refused
returns-clause-refused c =
    let system = c.in_ok-system.system in
    IfErr-weaker c.plan_over.result (IsSystemCause system) (IsCause c.args.files.now)
    (λ answer cause. IsCause-from_system c.args.files.now system answer c.in_ok-system.ensures.accepted cause) c.plan_over.ensures.refused
