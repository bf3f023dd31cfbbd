use Rattle.iface_roles.proofs.HeldLemmas.{AreInRange-set}
use Rattle.iface_roles.proofs.interface.Interface.set.Goals as goal

pub invariant_of-self : goal.invariant_of-self
invariant_of-self c =
    AreInRange-set c.self.inside.settings c.args.id c.place.result c.args.number c.place.ensures.value (c.allows.ensures.0 cc) c.self.invariant
