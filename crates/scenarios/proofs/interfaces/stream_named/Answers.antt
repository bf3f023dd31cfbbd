use Rattle.std.proofs.Common.{arith, List, length, ap, sym, subst}
use Rattle.std.proofs.lemmas.Bool.Decides.{nat_tests}
use Rattle.iface_roles.specs.Proper.{IsBoundedStream}
use Rattle.link_rules.specs.declared.plan_connections.StreamConnection.{StreamConnection}
use Rattle.scenarios.proofs.InterfaceLemmas.{bounded_on}
use Rattle.scenarios.proofs.interfaces.stream_named.Goals as goal

pub stream-link-requires : goal.stream-link-requires
stream-link-requires c =
    let same = ap (λ (links : List StreamConnection). length links) c.stream_connections.ensures in
    grind (arith, nat_tests, same, c.in_ok-refuse_if.ensures.ok)

pub returns-clause-port : goal.returns-clause-port
returns-clause-port c = subst IsBoundedStream (sym c.port_of.ensures) (bounded_on c.args.side c.stream-link.result c.stream-link.ensures.source c.stream-link.ensures.sink)
