use Rattle.std.proofs.Common.{◌≡◌, ◌++◌, take}
use Rattle.std.specs.List.{flat_map}
use Rattle.link_rules.specs.Links.{streams_of}
use Rattle.port_tables.specs.Ports.{connection_ends}
use Rattle.port_tables.specs.PortMaps.{end_entries}
use Rattle.port_tables.proofs.header.push_streams.Given as goal

abbrev pub invariant-loop-link : goal.invariant-loop-link
invariant-loop-link l = l.entries ≡ l.fn.entries ++ flat_map (end_entries l.plan.system) (flat_map (connection_ends l.plan.system) (take l.link-index (streams_of l.plan.system)))
