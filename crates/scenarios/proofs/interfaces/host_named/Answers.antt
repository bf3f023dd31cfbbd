use Rattle.std.proofs.Common.{◌<◌, List, length, subst}
use Rattle.system_tables.specs.declared.tables.EndId.{EndId}
use Rattle.scenarios.proofs.InterfaceLemmas.{a_host}
use Rattle.scenarios.proofs.interfaces.host_named.Goals as goal

pub host-requires : goal.host-requires
host-requires c = subst (λ (ends : List EndId). c.in_ok-number.number < length ends) c.hosts.ensures c.in_ok-number.ensures.inside

pub returns-clause-ok : goal.returns-clause-ok
returns-clause-ok c = a_host c.args.plan.now.system c.hosts.result.now c.args.word.now c.in_ok-number.number c.host.result c.hosts.ensures c.in_ok-number.ensures.ok c.host.ensures.at

pub returns-clause-number : goal.returns-clause-number
returns-clause-number c = subst (λ (ends : List EndId). c.in_ok-number.number < length ends) c.hosts.ensures c.in_ok-number.ensures.inside
