use Rattle.iface_roles.specs.declared.kinds.Side.TheVariants.{Start, End}
use Rattle.link_rules.proofs.LinkLemmas.{host_end, agent_end}
use Rattle.link_rules.proofs.laws.ends_are_known.Goals as goal

pub returns : goal.returns
returns c = record {
  hosts = λ system is number end at. host_end system is end (c.ends_are_joined.ensures system Start number end at);
  agents = λ system is number end at. agent_end system is end (c.ends_are_joined.ensures system End number end at);
}
