use Rattle.std.proofs.Common.{◌≡◌, subst}
use Rattle.link_rules.specs.Plans.{PlanTable, instance_name_at}
use Rattle.link_rules.proofs.plan.Plan.instance_name.Goals as goal

pub returns : goal.returns
returns c =
    let named = c.instance_name.ensures in
    let kept : c.instance_name.result.now ≡ instance_name_at c.self.inside.system c.args.end = rw named.1 named.2 in
    subst (λ (plan : PlanTable). c.instance_name.result.now ≡ instance_name_at plan.system c.args.end) c.self.view_is kept
