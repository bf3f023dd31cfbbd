use Rattle.iface_roles.specs.declared.kinds.Side.TheVariants.{Start}
use Rattle.drawn_scenarios.proofs.LinkLemmas.{host_has_link}
use Rattle.drawn_scenarios.proofs.laws.hosts_have_connections.Goals as goal

pub returns : goal.returns
returns c = λ plan is host less.
    host_has_link plan is (c.memory_connections_are_numbered.ensures.links plan.system is.system) (c.ends_are_joined.ensures plan.system Start) (c.ends_have_one_number.ensures.one plan.system Start)
    (c.memory_connections_are_numbered.ensures.each plan.system is.system) host less
