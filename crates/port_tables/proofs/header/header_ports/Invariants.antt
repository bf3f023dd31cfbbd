use Rattle.std.proofs.Common.{◌≡◌, take, map}
use Rattle.port_tables.specs.PortMaps.{line_of_entry}
use Rattle.port_tables.proofs.header.header_ports.Given as goal

abbrev pub invariant-loop-entry : goal.invariant-loop-entry
invariant-loop-entry l = l.lines ≡ map (line_of_entry l.plan.system) (take l.entry-index l.ports.entries)
