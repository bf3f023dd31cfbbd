use Rattle.std.proofs.Common.{◌≡◌, drop}
use Rattle.mm_fabric.specs.Asks.{command_to}
use Rattle.mm_fabric.proofs.asks.command_to.Given as goal

abbrev pub invariant-loop-k : goal.invariant-loop-k
invariant-loop-k l = command_to l.agent l.routes l.commands ≡ command_to l.agent (drop l.k l.routes) (drop l.k l.commands)
