use Rattle.iface_roles.proofs.RoleLemmas.{named_of_kind}
use Rattle.iface_roles.proofs.roles.role_of.Goals as goal

pub returns : goal.returns
returns c =
    named_of_kind c.args.kind c.args.text.now c.in_ok-role.role c.is_of.result c.then_some.result c.in_ok-role.ensures c.is_of.ensures c.then_some.ensures
