use Rattle.iface_roles.specs.Properties.{is_listed}
use Rattle.iface_roles.proofs.properties.is_listed.Goals as goal

pub returns : goal.returns
unfolding is_listed
returns c = c.is_among.ensures
