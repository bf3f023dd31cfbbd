use Rattle.std.proofs.Common.{◌≡◌, take}
use Rattle.system_tables.proofs.system.copy.copy_connections.Given as goal

abbrev pub invariant-loop-connection : goal.invariant-loop-connection
invariant-loop-connection l = l.copy ≡ take l.connection-index l.connection-items
