use Rattle.std.proofs.Common.{◌≡◌, ◌++◌, take, map}
use Rattle.std.specs.List.{filter}
use Rattle.port_tables.specs.Ports.{has_bits}
use Rattle.port_tables.specs.PortMaps.{entry_of}
use Rattle.port_tables.proofs.header.push_ports.Given as goal

abbrev pub invariant-loop-port : goal.invariant-loop-port
invariant-loop-port l = l.entries ≡ l.fn.entries ++ map (entry_of l.end l.starts) (filter has_bits (take l.port-index l.ports))
