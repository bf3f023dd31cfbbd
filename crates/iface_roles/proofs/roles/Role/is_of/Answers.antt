use Rattle.iface_roles.specs.Roles.{role_row}
use Rattle.iface_roles.proofs.KindLemmas.{same_kind-Decides}
use Rattle.iface_roles.proofs.roles.Role.is_of.Goals as goal

pub returns : goal.returns
returns c =
    rw (c.eq.ensures, c.row.ensures.kind) (same_kind-Decides (role_row c.args.self).kind c.args.kind)
