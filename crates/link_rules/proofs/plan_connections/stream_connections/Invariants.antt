use Rattle.std.proofs.Common.{◌≡◌}
use Rattle.link_rules.specs.PlanConnections.{stream_connection}
use Rattle.link_rules.proofs.StreamLemmas.{made_before}
use Rattle.link_rules.proofs.plan_connections.stream_connections.Given as goal

abbrev pub invariant-loop-k : goal.invariant-loop-k
invariant-loop-k l = l.links ≡ made_before (stream_connection l.system) l.connections l.k
