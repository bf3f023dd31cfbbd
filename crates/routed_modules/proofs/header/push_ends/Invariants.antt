use Rattle.std.proofs.Common.{◌≡◌, ◌++◌}
use Rattle.routed_modules.specs.Ports.{numbered_ports}
use Rattle.routed_modules.proofs.header.push_ends.Given as goal

abbrev pub invariant-loop-number : goal.invariant-loop-number
invariant-loop-number l = l.ports ≡ l.fn.ports ++ numbered_ports l.comes l.has l.end l.number
