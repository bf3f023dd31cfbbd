use Rattle.std.proofs.Common.{◌≡◌, take}
use Rattle.system_tables.proofs.tables.copy_interfaces.Given as goal

abbrev pub invariant-loop-interface : goal.invariant-loop-interface
invariant-loop-interface l = l.copy ≡ take l.interface-index l.from
