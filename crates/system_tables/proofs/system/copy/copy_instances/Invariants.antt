use Rattle.std.proofs.Common.{◌≡◌, take}
use Rattle.system_tables.proofs.system.copy.copy_instances.Given as goal

abbrev pub invariant-loop-instance : goal.invariant-loop-instance
invariant-loop-instance l = l.copy.items ≡ take l.instance-index l.from
