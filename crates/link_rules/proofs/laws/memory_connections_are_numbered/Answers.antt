use Rattle.link_rules.proofs.LinkLemmas.{memory_is, memory_each}
use Rattle.link_rules.proofs.laws.memory_connections_are_numbered.Goals as goal

pub returns-clause-links : goal.returns-clause-links
returns-clause-links c = λ system is. memory_is system is (c.ends_have_one_number.ensures.there system)

pub returns-clause-each : goal.returns-clause-each
returns-clause-each c = memory_each
