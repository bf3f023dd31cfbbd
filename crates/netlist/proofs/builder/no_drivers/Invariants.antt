use Rattle.std.proofs.Common.{◌≡◌, map, take}
use Rattle.netlist.specs.Netlists.{undriven}
use Rattle.netlist.proofs.builder.no_drivers.Given as goal

abbrev pub invariant-loop-port : goal.invariant-loop-port
invariant-loop-port l = l.drivers.items ≡ map undriven (take l._port-index l.ports)
