use Rattle.std.proofs.Common.{◌≡◌, subst}
use Rattle.link_rules.specs.Plans.{PlanTable, interface_name_at}
use Rattle.link_rules.proofs.plan.Plan.interface_name.Goals as goal

pub returns : goal.returns
returns c =
    let named = c.interface_name.ensures in
    let kept : c.interface_name.result.now ≡ interface_name_at c.self.inside.system c.args.end = rw (named.1.instance_is, named.1.interface_is) named.2 in
    subst (λ (plan : PlanTable). c.interface_name.result.now ≡ interface_name_at plan.system c.args.end) c.self.view_is kept
