use Rattle.std.proofs.Common.{◌≤◌, take}
use Rattle.mm_fabric.specs.Wide.{ReachWithin}
use Rattle.mm_fabric.proofs.wide.widest_address.Given as goal

abbrev pub invariant-loop-command : goal.invariant-loop-command
invariant-loop-command l = (ReachWithin l.bits (take l.command-index l.commands)) × (l.bits ≤ 128)
