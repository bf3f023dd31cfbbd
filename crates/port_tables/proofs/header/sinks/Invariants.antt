use Rattle.std.specs.Prelude.{◌≤◌, length}
use Rattle.link_rules.specs.Links.{streams_of}
use Rattle.port_tables.specs.PortMaps.{AreSinks}
use Rattle.port_tables.proofs.header.sinks.Given as goal

abbrev pub invariant-loop-link : goal.invariant-loop-link
invariant-loop-link l = AreSinks l.plan.system l.link-index l.sinks × (l.link-index ≤ length (streams_of l.plan.system))
